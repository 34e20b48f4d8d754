use Rattle.std.proofs.lemmas.Grind.{common_steps}
use Rattle.std.proofs.Common.{◌≡◌, ◌∙◌, ap, sym, subst, length, map, IfOk, arith}
use Rattle.rule_names.specs.Uses.{arity}
use Rattle.rule_meaning.specs.Functions.{AreRows, Functions, IsReplaced, IsSubstring, single_text, single_whole}
use Rattle.value_store.specs.code.Stores.{see_store}
use Rattle.guard_builtins.specs.code.Seen.{see_made, see_rows}
use Rattle.value_functions.specs.declared.change.Change.TheVariants as change
use Rattle.guard_syntax.specs.declared.function.Function.TheVariants as function
use Rattle.guard_builtins.proofs.CallArguments.{Answers, answers-so, called-by-change, called-with-three, first-argument}
use Rattle.guard_builtins.proofs.calls.call.Goals as goal
use Rattle.guard_builtins.proofs.calls.call.Goals.{in-JsonParse, in-ToLower, in-ToUpper, in-UrlDecode, in-ParseInt, in-ParseFloat, in-ParseBoolean, in-ParseString}

pub returns-in-RegexReplace-clause-rows : goal.returns-in-RegexReplace-clause-rows
returns-in-RegexReplace-clause-rows c =
    let k = see_store c.args.store.now in
    let three : length c.args.args.now ≡ 3 = c.requires.count ∙ ap arity c.in-RegexReplace.is in
    subst (λ f. IfOk c.regex_replace.result (λ made. Functions k f c.args.site (map see_rows c.args.args.now) (map see_made made.items))) (sym c.in-RegexReplace.is)
    (called-with-three c.regex_replace.result (λ rows pattern template made. AreRows (IsReplaced (single_text k pattern) (single_text k template)) k c.args.site rows made) c.args.args.now
    c.index-args-0.result c.index-args-1-in-RegexReplace.result c.index-args-2.result c.as_slice-rows.result.now c.deref-in-RegexReplace.result.now c.deref-in-RegexReplace-2.result.now three
    c.index-args-0.is c.index-args-1-in-RegexReplace.is c.index-args-2.is c.as_slice-rows.ensures.value c.deref-in-RegexReplace.ensures.value c.deref-in-RegexReplace-2.ensures.value
    c.regex_replace.ensures.rows)

pub returns-in-Substring-clause-rows : goal.returns-in-Substring-clause-rows
returns-in-Substring-clause-rows c =
    let k = see_store c.args.store.now in
    let three : length c.args.args.now ≡ 3 = c.requires.count ∙ ap arity c.in-Substring.is in
    subst (λ f. IfOk c.substring.result (λ made. Functions k f c.args.site (map see_rows c.args.args.now) (map see_made made.items))) (sym c.in-Substring.is)
    (called-with-three c.substring.result (λ rows from to made. AreRows (IsSubstring (single_whole k from) (single_whole k to)) k c.args.site rows made) c.args.args.now
    c.index-args-0.result c.index-args-1-in-Substring.result c.index-args-2-in-Substring.result c.as_slice-rows.result.now c.deref-in-Substring.result.now c.deref-in-Substring-2.result.now three
    c.index-args-0.is c.index-args-1-in-Substring.is c.index-args-2-in-Substring.is c.as_slice-rows.ensures.value c.deref-in-Substring.ensures.value c.deref-in-Substring-2.ensures.value
    c.substring.ensures.rows)

pub returns-clause-rows : goal.returns-clause-rows
returns-clause-rows c =
    let k = see_store c.args.store.now in
    let args = map see_rows c.args.args.now in
    let answers : Answers k c.args.function c.match-function.change c.args.site args = elim c.match-function.branch [
      | in-JsonParse w ↦ answers-so k _ function.JsonParse _ change.JsonParse c.args.site args w.in-JsonParse.is w.change-is (λ made are. are)
      | in-ToLower w ↦ answers-so k _ function.ToLower _ change.ToLower c.args.site args w.in-ToLower.is w.change-is (λ made are. are)
      | in-ToUpper w ↦ answers-so k _ function.ToUpper _ change.ToUpper c.args.site args w.in-ToUpper.is w.change-is (λ made are. are)
      | in-UrlDecode w ↦ answers-so k _ function.UrlDecode _ change.UrlDecode c.args.site args w.in-UrlDecode.is w.change-is (λ made are. are)
      | in-ParseInt w ↦ answers-so k _ function.ParseInt _ change.ParseInt c.args.site args w.in-ParseInt.is w.change-is (λ made are. are)
      | in-ParseFloat w ↦ answers-so k _ function.ParseFloat _ change.ParseFloat c.args.site args w.in-ParseFloat.is w.change-is (λ made are. are)
      | in-ParseBoolean w ↦ answers-so k _ function.ParseBoolean _ change.ParseBoolean c.args.site args w.in-ParseBoolean.is w.change-is (λ made are. are)
      | in-ParseString w ↦ answers-so k _ function.ParseString _ change.ParseString c.args.site args w.in-ParseString.is w.change-is (λ made are. are)
    ] in
    called-by-change c.rows_for.result k c.args.function c.match-function.change c.args.site args c.as_slice-rows.result.now answers
    (first-argument c.args.function c.args.args.now c.index-args-0.result c.as_slice-rows.result.now c.requires.count c.index-args-0.is c.as_slice-rows.ensures.value) c.rows_for.ensures.rows

pub returns-clause-no_memory : goal.returns-clause-no_memory
returns-clause-no_memory c by_row none =
    c.rows_for.ensures.no_memory (first-argument c.args.function c.args.args.now c.index-args-0.result c.as_slice-rows.result.now c.requires.count c.index-args-0.is c.as_slice-rows.ensures.value ∙ none)

pub regex_replace-requires : goal.regex_replace-requires
regex_replace-requires c = grind (arith, common_steps)

pub returns-in-Count-clause-rows : goal.returns-in-Count-clause-rows
returns-in-Count-clause-rows c = grind (arith, common_steps)

pub returns-in-RegexReplace-clause-no_memory : goal.returns-in-RegexReplace-clause-no_memory
returns-in-RegexReplace-clause-no_memory c = grind (arith, common_steps)

pub returns-in-Join-clause-rows : goal.returns-in-Join-clause-rows
returns-in-Join-clause-rows c = grind (arith, common_steps)

pub returns-in-Substring-clause-no_memory : goal.returns-in-Substring-clause-no_memory
returns-in-Substring-clause-no_memory c = grind (arith, common_steps)
