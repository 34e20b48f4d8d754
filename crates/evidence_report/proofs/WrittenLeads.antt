-- The lines of the entries behind leads, one lead after another.
use Rattle.std.proofs.Common.{◌≡◌, ℕ, ◌<◌, ◌+◌, ◌*◌, false, List, [], ◌∷◌, ◌++◌, length, get_or, map, refl, sym, ap, subst, ◌∙◌, append-nil, append_assoc, zero, suc, arith}
use Rattle.std.specs.List.{flat_map}
use Rattle.evidence_lines.specs.Lines.{line_of}
use Rattle.evidence_lines.specs.declared.line.Line.{Line}
use Rattle.report_text.specs.EntryLines.{entry_line}
use Rattle.rule_meaning.specs.Fails.{Entry}
use Rattle.rule_meaning.specs.StoreModel.{StoreModel}
use Rattle.evidence_truth.specs.code.LineFails.{line_fails}
use Rattle.report_text.specs.Texts.{Texts}
use Rattle.evidence_leads.specs.code.Leads.{AreBelow, CitesFall, IsBelow, Leading, ToLine, entries_behind, line_leads, see_lead}
use Rattle.evidence_report.specs.code.Written.{entry_lines}
use Rattle.guard_syntax.specs.declared.row.Origin.TheVariants.{Template}
use Rattle.report_text.specs.code.SeenEntries.{see_entry}
use Rattle.report_text.specs.declared.entry.Entry as lead_entry
use Rattle.report_text.specs.declared.entry.Shown.TheVariants as shown
use Rattle.report_text.specs.declared.entry.Word.TheVariants as word
use Rattle.evidence_leads.specs.declared.lead.Lead.{Lead}
use Rattle.evidence_leads.specs.declared.lead.Lead.TheVariants as lead
use Rattle.evidence_leads.proofs.LeadEntries.{below-line, fails-behind}

lines-both : (known : StoreModel) (texts : Texts) (es fs : List Entry) → entry_lines known texts (es ++ fs) ≡ entry_lines known texts es ++ entry_lines known texts fs
lines-both known texts [] fs = refl
lines-both known texts (e ∷ es) fs =
    ap (λ (t : List ℕ). entry_line known.file known.template texts e ++ t) (lines-both known texts es fs)
    ∙ sym (append_assoc (entry_line known.file known.template texts e) (entry_lines known texts es) (entry_lines known texts fs))

module _ (known : StoreModel) (lines : List Line) (texts : Texts) where
  -- the lines of one lead
  abbrev pub lead_text : Lead → List ℕ
  lead_text x = entry_lines known texts (entries_behind (λ (c : ℕ). line_fails known lines c c) (see_lead known x))

  texts-behind : (xs : List Lead) → flat_map lead_text xs ≡ entry_lines known texts (flat_map (entries_behind (λ (c : ℕ). line_fails known lines c c)) (map (see_lead known) xs))
  texts-behind [] = refl
  texts-behind (x ∷ xs) =
      ap (λ (t : List ℕ). lead_text x ++ t) (texts-behind xs)
      ∙ sym (lines-both known texts (entries_behind (λ (c : ℕ). line_fails known lines c c) (see_lead known x)) (flat_map (entries_behind (λ (c : ℕ). line_fails known lines c c)) (map (see_lead known) xs)))

  pub entry-text : (x : Lead) (e : lead_entry.Entry) → x ≡ lead.Entry e → entry_line known.file known.template texts (see_entry known e) ≡ lead_text x
  entry-text x e is = sym (append-nil (entry_line known.file known.template texts (see_entry known e))) ∙ sym (ap lead_text is)

  module _ (falls : CitesFall lines) (number : ℕ) (xs : List Lead) (are : map (see_lead known) xs ≡ line_leads known lines (line_of lines number)) where
    pub line-text : flat_map lead_text xs ≡ entry_lines known texts (line_fails known lines number number)
    line-text =
        texts-behind xs
        ∙ ap (λ (ls : List Leading). entry_lines known texts (flat_map (entries_behind (λ (c : ℕ). line_fails known lines c c)) ls)) are
        ∙ ap (entry_lines known texts) (fails-behind known lines falls number)

    mapped-at : (ys : List Lead) (i : ℕ) (d : Lead) (z : Leading) → i < length ys → (AreBelow known lines number (map (see_lead known) ys)) → IsBelow known lines number (see_lead known (get_or ys i d))
    mapped-at [] i d z within all = absurd (omega (arith, within))
    mapped-at (y ∷ ys) zero d z within all = all.0
    mapped-at (y ∷ ys) (suc i) d z within all = mapped-at ys i d z (omega (arith, within)) all.1

    pub lead-below : (i : ℕ) (d : Lead) → i < length xs → IsBelow known lines number (see_lead known (get_or xs i d))
    lead-below i d within = mapped-at xs i d (ToLine 0) within (subst (AreBelow known lines number) (sym are) (below-line known lines falls number))

-- the order in which leads are followed
abbrev pub lead_rank : Lead → ℕ
lead_rank (lead.Entry e) = 0
lead_rank (lead.Line number) = number * 2 + 2

pub rank-less : (known : StoreModel) (lines : List Line) (x : Lead) (number : ℕ) → IsBelow known lines number (see_lead known x) → lead_rank x < number * 2 + 1
rank-less known lines (lead.Entry e) number below = omega arith
rank-less known lines (lead.Line c) number below = let less = below.0 in omega (arith, less)

-- a lead that stands for what is past the end of a list
abbrev pub past_lead : Lead
past_lead = lead.Entry (record { shown = shown.Value (record { origin = Template; node = 0; key = false }); word = word.Value; part = 0 })
