-- The lines of `specs/OtherKinds` follow, each from those before it.
use Rattle.std.proofs.Common.{false, arith, refl, inl, inr, [], ◌∷◌, Some, None, codes, pos}
use Rattle.evidence_lines.specs.declared.version.Version.TheVariants.{One}
use Rattle.doc_values.specs.Tree.{Nil, Node}
use Rattle.doc_values.specs.declared.kind.Kind.TheVariants as value
use Rattle.guard_syntax.specs.Syntax.{no_conds, query, no_steps, more_steps, var, key, this, filter, keys, literal}
use Rattle.guard_syntax.specs.declared.syntax.Op.TheVariants as op
use Rattle.guard_syntax.specs.declared.function.Function.TheVariants as function_named
use Rattle.guard_syntax.specs.declared.row.Row.TheVariants.{Missing}
use Rattle.guard_syntax.specs.declared.row.Verdict.TheVariants.{Pass, Fail}
use Rattle.rule_names.specs.Pieces.{AreInOrder}
use Rattle.rule_names.specs.declared.bind.Bind.TheVariants as bound
use Rattle.rule_meaning.specs.Functions.{New, whole_tree}
use Rattle.evidence_rules.specs.Follows.{Follows, AllFollow}
use Rattle.evidence_examples.specs.code.GivenLines.{node, file_line}
use Rattle.evidence_examples.proofs.GivenLines.{is-line, Each, IsNoRule, new-rule, IsOtherRule, new-site}
use Rattle.evidence_examples.specs.code.OtherKinds.{filter_conds, when_conds, rule_c, rule_d, file, known, counted, after, rows, literal_row, key_row, counted_row, all_lines, line, first}

-- the sites are numbered as they should be
pub ordered : AreInOrder file
ordered = refl

-- ---- each follows

follows_1 : Follows One known (first 0) (line 1) []
follows_1 =
    inl ((refl, refl, refl, refl, refl), refl)

follows_2 : Follows One known (first 1) (line 2) []
follows_2 =
    inr (1, 3, refl, refl, refl, ((node 0, [], [], [], [], refl, refl, (refl, refl), (refl, refl), refl), refl))

follows_3 : Follows One known (first 2) (line 3) []
follows_3 =
    inr (1, 4, refl, refl, refl, (refl, refl, refl))

follows_4 : Follows One known (first 3) (line 4) []
follows_4 =
    inr (3, 9, refl, refl, refl, ((node 2, [], [], [], [], refl, refl, (refl, refl), (refl, refl), refl), refl))

follows_5 : Follows One known (first 4) (line 5) []
follows_5 =
    inr (3, 10, refl, refl, refl, (refl, refl, refl))

follows_6 : Follows One known (first 5) (line 6) []
follows_6 =
    let at_4 = is-line (first 5) 4 (line 4) 3 9 refl refl refl in
    let at_5 = is-line (first 5) 5 (line 5) 3 10 refl refl refl in
    inr (3, 7, refl, refl, refl, ((rows 3, literal_row 10, ((key 9 (codes "Type")), refl, at_4), at_5, refl), refl))

follows_7 : Follows One known (first 6) (line 7) []
follows_7 =
    inr (3, 6, refl, refl, refl, ((Pass ∷ [], (is-line (first 6) 6 (line 6) 3 7 refl refl refl, tt), refl), refl))

follows_8 : Follows One known (first 7) (line 8) []
follows_8 =
    inr (3, 5, refl, refl, refl, ((Pass ∷ [], (is-line (first 7) 7 (line 7) 3 6 refl refl refl, tt), refl), refl))

follows_9 : Follows One known (first 8) (line 9) []
follows_9 =
    let at_2 = is-line (first 8) 2 (line 2) 1 3 refl refl refl in
    let at_3 = is-line (first 8) 3 (line 3) 1 4 refl refl refl in
    let at_8 = is-line (first 8) 8 (line 8) 3 5 refl refl refl in
    inr (1, 4, refl, refl, refl, ((tt, (node 0, 2 ∷ [], 8 ∷ [], rows 1, Pass ∷ [], refl, refl, ((key 3 (codes "Resources")), refl, at_2), ((3, at_3, at_8), tt), refl)), refl))

follows_10 : Follows One known (first 9) (line 10) []
follows_10 =
    inr (1, 4, refl, refl, refl, ((rows 2, is-line (first 9) 9 (line 9) 1 4 refl refl refl, refl), refl))

follows_11 : Follows One known (first 10) (line 11) []
follows_11 =
    inr (1, 12, refl, refl, refl, (refl, inl ((rule_c, (0, omega arith, refl), refl, refl), refl), refl))

follows_12 : Follows One known (first 11) (line 12) []
follows_12 =
    let at_10 = is-line (first 11) 10 (line 10) 1 4 refl refl refl in
    inr (11, 16, refl, refl, refl, ((node 0, [], 10 ∷ [], [], key_row, refl, refl, (refl, refl), (bound.Capture 1 4, refl, (1, refl, at_10)), refl), refl))

follows_13 : Follows One known (first 12) (line 13) []
follows_13 =
    inr (11, 17, refl, refl, refl, (refl, refl, refl))

follows_14 : Follows One known (first 13) (line 14) []
follows_14 =
    let at_12 = is-line (first 13) 12 (line 12) 11 16 refl refl refl in
    let at_13 = is-line (first 13) 13 (line 13) 11 17 refl refl refl in
    inr (11, 14, refl, refl, refl, ((key_row, literal_row 17, ((var 16 (codes "id")), refl, at_12), at_13, refl), refl))

follows_15 : Follows One known (first 14) (line 15) []
follows_15 =
    inr (11, 13, refl, refl, refl, ((Pass ∷ [], (is-line (first 14) 14 (line 14) 11 14 refl refl refl, tt), refl), refl))

follows_16 : Follows One known (first 15) (line 16) []
follows_16 =
    let at_9 = is-line (first 15) 9 (line 9) 1 4 refl refl refl in
    inr (11, 24, refl, refl, refl, ((node 0, [], 9 ∷ [], [], rows 2, refl, refl, (refl, refl), (bound.Value 1 2, refl, (1, refl, ((filter 4 (Some (record { text = codes "id"; at = 19 })) filter_conds), refl, at_9))), refl), refl))

follows_17 : Follows One known (first 16) (line 17) []
follows_17 =
    inr (11, 22, refl, refl, refl, ((rows 2, [], ((var 24 (codes "t")), refl, is-line (first 16) 16 (line 16) 11 24 refl refl refl), refl, refl), refl))

follows_18 : Follows One known (first 17) (line 18) []
follows_18 =
    inr (11, 21, refl, refl, refl, ((Pass ∷ [], (is-line (first 17) 17 (line 17) 11 22 refl refl refl, tt), refl), refl))

follows_19 : Follows One known (first 18) (line 19) []
follows_19 =
    inr (11, 20, refl, refl, refl, ((Pass ∷ [], (is-line (first 18) 18 (line 18) 11 21 refl refl refl, tt), refl), refl))

follows_20 : Follows One known (first 19) (line 20) []
follows_20 =
    inr (11, 25, refl, refl, refl, (refl, inr (inl ((19, when_conds, refl), refl)), refl))

follows_21 : Follows One known (first 20) (line 21) []
follows_21 =
    let at_9 = is-line (first 20) 9 (line 9) 1 4 refl refl refl in
    inr (20, 29, refl, refl, refl, ((node 0, [], 9 ∷ [], [], rows 2, refl, refl, (refl, refl), (bound.Value 2 2, refl, (1, refl, ((filter 4 (Some (record { text = codes "id"; at = 19 })) filter_conds), refl, at_9))), refl), refl))

follows_22 : Follows One known (first 21) (line 22) []
follows_22 =
    inr (20, 30, refl, refl, refl, (refl, inr (inr (inl (27, false, query 28 (more_steps (var 29 (codes "t")) no_steps), refl), refl)), refl))

follows_23 : Follows One known (first 22) (line 23) []
follows_23 =
    inr (22, 34, refl, refl, refl, ((node 2, [], [], [], [], refl, refl, (refl, refl), (refl, refl), refl), refl))

follows_24 : Follows One known (first 23) (line 24) []
follows_24 =
    let at_23 = is-line (first 23) 23 (line 23) 22 34 refl refl refl in
    inr (22, 32, refl, refl, refl, ((rows 3, [], ((key 34 (codes "Type")), refl, at_23), refl, refl), refl))

follows_25 : Follows One known (first 24) (line 25) []
follows_25 =
    inr (22, 31, refl, refl, refl, ((Pass ∷ [], (is-line (first 24) 24 (line 24) 22 32 refl refl refl, tt), refl), refl))

follows_26 : Follows One known (first 25) (line 26) []
follows_26 =
    inr (22, 30, refl, refl, refl, ((Pass ∷ [], (is-line (first 25) 25 (line 25) 22 31 refl refl refl, tt), refl), refl))

follows_27 : Follows One known (first 26) (line 27) []
follows_27 =
    let at_21 = is-line (first 26) 21 (line 21) 20 29 refl refl refl in
    let at_22 = is-line (first 26) 22 (line 22) 20 30 refl refl refl in
    let at_26 = is-line (first 26) 26 (line 26) 22 30 refl refl refl in
    inr (20, 27, refl, refl, refl, ((rows 2, ((var 29 (codes "t")), refl, at_21), (Pass ∷ [], ((22, at_22, at_26), tt), refl)), refl))

follows_28 : Follows One known (first 27) (line 28) []
follows_28 =
    inr (20, 26, refl, refl, refl, ((Pass ∷ [], (is-line (first 27) 27 (line 27) 20 27 refl refl refl, tt), refl), refl))

follows_29 : Follows One known (first 28) (line 29) []
follows_29 =
    inr (20, 25, refl, refl, refl, ((Pass ∷ [], (is-line (first 28) 28 (line 28) 20 26 refl refl refl, tt), refl), refl))

follows_30 : Follows One known (first 29) (line 30) []
follows_30 =
    let at_19 = is-line (first 29) 19 (line 19) 11 20 refl refl refl in
    let at_20 = is-line (first 29) 20 (line 20) 11 25 refl refl refl in
    let at_29 = is-line (first 29) 29 (line 29) 20 25 refl refl refl in
    inr (11, 19, refl, refl, refl, ((Pass, at_19, (node 0, (20, at_20, at_29))), refl))

follows_31 : Follows One known (first 30) (line 31) []
follows_31 =
    inr (11, 18, refl, refl, refl, ((Pass ∷ [], (is-line (first 30) 30 (line 30) 11 19 refl refl refl, tt), refl), refl))

follows_32 : Follows One known (first 31) (line 32) []
follows_32 =
    inr (11, 36, refl, refl, refl, (node 0, refl, refl, refl, refl))

follows_33 : Follows One known (first 32) (line 33) []
follows_33 =
    inr (11, 37, refl, refl, refl, (refl, inr (inr (inr (36, codes "A::B", no_conds, refl), refl)), refl))

follows_34 : Follows One known (first 33) (line 34) []
follows_34 =
    inr (33, 41, refl, refl, refl, ((node 2, [], [], [], [], refl, refl, (refl, refl), (refl, refl), refl), refl))

follows_35 : Follows One known (first 34) (line 35) []
follows_35 =
    inr (33, 39, refl, refl, refl, ((rows 2, [], ((this 41), refl, is-line (first 34) 34 (line 34) 33 41 refl refl refl), refl, refl), refl))

follows_36 : Follows One known (first 35) (line 36) []
follows_36 =
    inr (33, 38, refl, refl, refl, ((Pass ∷ [], (is-line (first 35) 35 (line 35) 33 39 refl refl refl, tt), refl), refl))

follows_37 : Follows One known (first 36) (line 37) []
follows_37 =
    inr (33, 37, refl, refl, refl, ((Pass ∷ [], (is-line (first 36) 36 (line 36) 33 38 refl refl refl, tt), refl), refl))

follows_38 : Follows One known (first 37) (line 38) []
follows_38 =
    let at_32 = is-line (first 37) 32 (line 32) 11 36 refl refl refl in
    let at_33 = is-line (first 37) 33 (line 33) 11 37 refl refl refl in
    let at_37 = is-line (first 37) 37 (line 37) 33 37 refl refl refl in
    inr (11, 36, refl, refl, refl, ((rows 2, at_32, (Pass ∷ [], ((33, at_33, at_37), tt), refl)), refl))

follows_39 : Follows One known (first 38) (line 39) []
follows_39 =
    inr (11, 35, refl, refl, refl, ((Pass ∷ [], (is-line (first 38) 38 (line 38) 11 36 refl refl refl, tt), refl), refl))

follows_40 : Follows One known (first 39) (line 40) []
follows_40 =
    inr (11, 45, refl, refl, refl, ((node 0, [], [], [], [], refl, refl, (refl, refl), (refl, refl), refl), refl))

follows_41 : Follows One known (first 40) (line 41) []
follows_41 =
    let at_9 = is-line (first 40) 9 (line 9) 1 4 refl refl refl in
    inr (11, 48, refl, refl, refl, ((node 0, [], 9 ∷ [], [], rows 2, refl, refl, (refl, refl), (bound.Value 1 2, refl, (1, refl, ((filter 4 (Some (record { text = codes "id"; at = 19 })) filter_conds), refl, at_9))), refl), refl))

follows_42 : Follows One known (first 41) (line 42) counted
follows_42 =
    let at_41 = is-line (first 41) 41 (line 41) 11 48 refl refl refl in
    inr (11, 46, refl, refl, refl, (function_named.Count, rows 2 ∷ [], New (whole_tree (pos 1)) ∷ [], refl, (((var 48 (codes "t")), refl, at_41), tt), refl, refl, refl))

follows_43 : Follows One after (first 42) (line 43) []
follows_43 =
    let at_40 = is-line (first 42) 40 (line 40) 11 45 refl refl refl in
    let at_42 = is-line (first 42) 42 (line 42) 11 46 refl refl refl in
    inr (11, 43, refl, refl, refl, ((rows 4, counted_row, ((key 45 (codes "N")), refl, at_40), at_42, refl), refl))

follows_44 : Follows One after (first 43) (line 44) []
follows_44 =
    inr (11, 42, refl, refl, refl, ((Pass ∷ [], (is-line (first 43) 43 (line 43) 11 43 refl refl refl, tt), refl), refl))

follows_45 : Follows One after (first 44) (line 45) []
follows_45 =
    inr (11, 52, refl, refl, refl, ((node 0, [], [], [], [], refl, refl, (refl, refl), (refl, refl), refl), refl))

follows_46 : Follows One after (first 45) (line 46) []
follows_46 =
    inr (11, 54, refl, refl, refl, (refl, refl, refl))

follows_47 : Follows One after (first 46) (line 47) []
follows_47 =
    let at_45 = is-line (first 46) 45 (line 45) 11 52 refl refl refl in
    let at_46 = is-line (first 46) 46 (line 46) 11 54 refl refl refl in
    inr (11, 53, refl, refl, refl, ((node 0, 45 ∷ [], 46 ∷ [], rows 1, literal_row 54, refl, refl, ((key 52 (codes "Resources")), refl, at_45), at_46, refl), refl))

follows_48 : Follows One after (first 47) (line 48) []
follows_48 =
    let at_47 = is-line (first 47) 47 (line 47) 11 53 refl refl refl in
    inr (11, 50, refl, refl, refl, ((rows 2, [], ((keys 53 None op.Eq false (literal 54 (Node (record { kind = value.Text; text = codes "T"; key = None; at = 169 }) Nil Nil))), refl, at_47), refl, refl), refl))

follows_49 : Follows One after (first 48) (line 49) []
follows_49 =
    inr (11, 49, refl, refl, refl, ((Pass ∷ [], (is-line (first 48) 48 (line 48) 11 50 refl refl refl, tt), refl), refl))

follows_50 : Follows One after (first 49) (line 50) []
follows_50 =
    inr (1, 58, refl, refl, refl, (refl, inl ((rule_d, (1, omega arith, refl), refl, refl), refl), refl))

follows_51 : Follows One after (first 50) (line 51) []
follows_51 =
    inr (50, 62, refl, refl, refl, ((node 0, [], [], [], [], refl, refl, (refl, refl), (refl, refl), refl), refl))

follows_52 : Follows One after (first 51) (line 52) []
follows_52 =
    let at_51 = is-line (first 51) 51 (line 51) 50 62 refl refl refl in
    inr (50, 60, refl, refl, refl, ((Missing (node 0) 62 ∷ [], [], ((key 62 (codes "M")), refl, at_51), refl, refl), refl))

follows_53 : Follows One after (first 52) (line 53) []
follows_53 =
    inr (50, 59, refl, refl, refl, ((Fail ∷ [], (is-line (first 52) 52 (line 52) 50 60 refl refl refl, tt), refl), refl))

follows_54 : Follows One after (first 53) (line 54) []
follows_54 =
    inr (50, 58, refl, refl, refl, ((Fail ∷ [], (is-line (first 53) 53 (line 53) 50 59 refl refl refl, tt), refl), refl))

no-rule : Each IsNoRule (first 54)
no-rule =
    (refl, (refl, (refl, (refl, (refl, (refl, (refl, (refl, (refl, (refl, (refl, (refl, (refl, (refl, (refl, (refl, (refl, (refl, (refl, (refl, (refl, (refl, (refl, (refl, (refl, (refl, (refl, (refl, (refl, (refl, (refl, (refl, (refl, (refl, (refl, (refl, (refl, (refl, (refl, (refl, (refl, (refl, (refl, (refl, (refl, (refl, (refl, (refl, (refl, (refl, (refl, (refl, (refl, (refl, tt))))))))))))))))))))))))))))))))))))))))))))))))))))))

follows_55 : Follows One after (first 54) (line 55) []
follows_55 =
    let at_50 = is-line (first 54) 50 (line 50) 1 58 refl refl refl in
    let at_54 = is-line (first 54) 54 (line 54) 50 58 refl refl refl in
    inr (1, 57, refl, refl, refl, (((file_line, refl, refl), new-rule after (first 54) no-rule 57, (refl, (node 0, (50, at_50, at_54)))), refl))

follows_56 : Follows One after (first 55) (line 56) []
follows_56 =
    inr (11, 56, refl, refl, refl, ((57, 1, Fail, refl, is-line (first 55) 55 (line 55) 1 57 refl refl refl, refl), refl))

follows_57 : Follows One after (first 56) (line 57) []
follows_57 =
    inr (11, 55, refl, refl, refl, ((Pass ∷ [], (is-line (first 56) 56 (line 56) 11 56 refl refl refl, tt), refl), refl))

follows_58 : Follows One after (first 57) (line 58) []
follows_58 =
    let at_15 = is-line (first 57) 15 (line 15) 11 13 refl refl refl in
    let at_31 = is-line (first 57) 31 (line 31) 11 18 refl refl refl in
    let at_39 = is-line (first 57) 39 (line 39) 11 35 refl refl refl in
    let at_44 = is-line (first 57) 44 (line 44) 11 42 refl refl refl in
    let at_49 = is-line (first 57) 49 (line 49) 11 49 refl refl refl in
    let at_57 = is-line (first 57) 57 (line 57) 11 55 refl refl refl in
    inr (11, 12, refl, refl, refl, ((Pass ∷ Pass ∷ Pass ∷ Pass ∷ Pass ∷ Pass ∷ [], (at_15, (at_31, (at_39, (at_44, (at_49, (at_57, tt)))))), refl), refl))

-- the only rule before has another site
others : Each (IsOtherRule 11) (first 58)
others =
    (refl, (refl, (refl, (refl, (refl, (refl, (refl, (refl, (refl, (refl, (refl, (refl, (refl, (refl, (refl, (refl, (refl, (refl, (refl, (refl, (refl, (refl, (refl, (refl, (refl, (refl, (refl, (refl, (refl, (refl, (refl, (refl, (refl, (refl, (refl, (refl, (refl, (refl, (refl, (refl, (refl, (refl, (refl, (refl, (refl, (refl, (refl, (refl, (refl, (refl, (refl, (refl, (refl, (refl, (refl, (refl, (refl, (refl, tt))))))))))))))))))))))))))))))))))))))))))))))))))))))))))

follows_59 : Follows One after (first 58) (line 59) []
follows_59 =
    let at_11 = is-line (first 58) 11 (line 11) 1 12 refl refl refl in
    let at_58 = is-line (first 58) 58 (line 58) 11 12 refl refl refl in
    inr (1, 11, refl, refl, refl, (((file_line, refl, refl), new-site after (first 58) 11 others, (refl, (node 0, (11, at_11, at_58)))), refl))

pub all_follow : AllFollow One known [] all_lines
all_follow = (
  [],
  follows_1,
  (
    [],
    follows_2,
    (
      [],
      follows_3,
      (
        [],
        follows_4,
        (
          [],
          follows_5,
          (
            [],
            follows_6,
            (
              [],
              follows_7,
              (
                [],
                follows_8,
                (
                  [],
                  follows_9,
                  (
                    [],
                    follows_10,
                    (
                      [],
                      follows_11,
                      (
                        [],
                        follows_12,
                        (
                          [],
                          follows_13,
                          (
                            [],
                            follows_14,
                            (
                              [],
                              follows_15,
                              (
                                [],
                                follows_16,
                                (
                                  [],
                                  follows_17,
                                  (
                                    [],
                                    follows_18,
                                    (
                                      [],
                                      follows_19,
                                      (
                                        [],
                                        follows_20,
                                        (
                                          [],
                                          follows_21,
                                          (
                                            [],
                                            follows_22,
                                            (
                                              [],
                                              follows_23,
                                              (
                                                [],
                                                follows_24,
                                                (
                                                  [],
                                                  follows_25,
                                                  (
                                                    [],
                                                    follows_26,
                                                    (
                                                      [],
                                                      follows_27,
                                                      (
                                                        [],
                                                        follows_28,
                                                        (
                                                          [],
                                                          follows_29,
                                                          (
                                                            [],
                                                            follows_30,
                                                            (
                                                              [],
                                                              follows_31,
                                                              (
                                                                [],
                                                                follows_32,
                                                                (
                                                                  [],
                                                                  follows_33,
                                                                  (
                                                                    [],
                                                                    follows_34,
                                                                    (
                                                                      [],
                                                                      follows_35,
                                                                      (
                                                                        [],
                                                                        follows_36,
                                                                        (
                                                                          [],
                                                                          follows_37,
                                                                          (
                                                                            [],
                                                                            follows_38,
                                                                            (
                                                                              [],
                                                                              follows_39,
                                                                              (
                                                                                [],
                                                                                follows_40,
                                                                                (
                                                                                  [],
                                                                                  follows_41,
                                                                                  (
                                                                                    counted,
                                                                                    follows_42,
                                                                                    (
                                                                                      [],
                                                                                      follows_43,
                                                                                      (
                                                                                        [],
                                                                                        follows_44,
                                                                                        (
                                                                                          [],
                                                                                          follows_45,
                                                                                          (
                                                                                            [],
                                                                                            follows_46,
                                                                                            (
                                                                                              [],
                                                                                              follows_47,
                                                                                              (
                                                                                                [],
                                                                                                follows_48,
                                                                                                (
                                                                                                  [],
                                                                                                  follows_49,
                                                                                                  (
                                                                                                    [],
                                                                                                    follows_50,
                                                                                                    (
                                                                                                      [],
                                                                                                      follows_51,
                                                                                                      (
                                                                                                        [],
                                                                                                        follows_52,
                                                                                                        (
                                                                                                          [],
                                                                                                          follows_53,
                                                                                                          (
                                                                                                            [],
                                                                                                            follows_54,
                                                                                                            (
                                                                                                              [],
                                                                                                              follows_55,
                                                                                                              (
                                                                                                                [],
                                                                                                                follows_56,
                                                                                                                ([], follows_57, ([], follows_58, ([], follows_59, tt))),
                                                                                                              ),
                                                                                                            ),
                                                                                                          ),
                                                                                                        ),
                                                                                                      ),
                                                                                                    ),
                                                                                                  ),
                                                                                                ),
                                                                                              ),
                                                                                            ),
                                                                                          ),
                                                                                        ),
                                                                                      ),
                                                                                    ),
                                                                                  ),
                                                                                ),
                                                                              ),
                                                                            ),
                                                                          ),
                                                                        ),
                                                                      ),
                                                                    ),
                                                                  ),
                                                                ),
                                                              ),
                                                            ),
                                                          ),
                                                        ),
                                                      ),
                                                    ),
                                                  ),
                                                ),
                                              ),
                                            ),
                                          ),
                                        ),
                                      ),
                                    ),
                                  ),
                                ),
                              ),
                            ),
                          ),
                        ),
                      ),
                    ),
                  ),
                ),
              ),
            ),
          ),
        ),
      ),
    ),
  ),
)
