-- The evidence of an engine that evaluated the rules is accepted over its store, which holds the trees of its lines; and what functions answer is the same for the engine and
-- for the inputs.
use Rattle.std.proofs.Common.{◌≡◌, List, refl, sym, ap, ap₂, subst, ◌∙◌}
use Rattle.doc_values.specs.Tree.{Forest}
use Rattle.evidence_lines.specs.declared.line.Line.{Line}
use Rattle.evidence_lines.specs.declared.version.Version.{Version}
use Rattle.evidence_lines.specs.declared.version.Version.TheVariants.{Two}
use Rattle.guard_syntax.specs.Syntax.{File}
use Rattle.rule_meaning.specs.Locations.{Answers}
use Rattle.rule_meaning.specs.Seeing.{world_of}
use Rattle.rule_meaning.specs.StoreModel.{StoreModel}
use Rattle.evidence_rules.specs.Follows.{Accepts}
use Rattle.engine_states.specs.code.States.{IsWhole, State}
use Rattle.evidence_report.specs.code.RuleEntries.{IsAccepted}
use Rattle.guard_ends.specs.Reported.{world_over}

module _ (s : State) (file : File) (tree : Forest) (template_is : s.known.template ≡ tree) (file_is : s.known.file ≡ file) where
  accepted-here : Accepts Two tree file s.lines → IsWhole s → IsAccepted Two s.known s.lines
  accepted-here accepts whole = record {
    accepts = subst (λ (t : Forest). Accepts Two t s.known.file s.lines) (sym template_is) (subst (λ (f : File). Accepts Two tree f s.lines) (sym file_is) accepts);
    last = s.known;
    leads = whole.follow;
    holds = record { template = refl; file = refl; trees = λ line row made there. there };
  }

  -- as a context has them
  pub accepted-in : Accepts Two tree file s.lines → IsWhole s → (version : Version) (known : StoreModel) (lines : List Line) → version ≡ Two → known ≡ s.known → lines ≡ s.lines
      → IsAccepted version known lines
  accepted-in accepts whole version known lines two known_is lines_are =
      subst (λ (v : Version). IsAccepted v known lines) (sym two)
      (subst (λ (k : StoreModel). IsAccepted Two k lines) (sym known_is)
      (subst (λ (ls : List Line). IsAccepted Two s.known ls) (sym lines_are) (accepted-here accepts whole)))

  pub same-world : (known : StoreModel) (answers : Answers) → known ≡ s.known → world_over file tree answers ≡ world_of known answers
  same-world known answers known_is =
      ap₂ (λ (f : File) (t : Forest). world_over f t answers) (sym (ap (λ (k : StoreModel). k.file) known_is ∙ file_is))
      (sym (ap (λ (k : StoreModel). k.template) known_is ∙ template_is))
