-- Settings that are accepted make few entries.
use Rattle.std.proofs.Common.{sym, ◌∙◌, arith}
use borrow.Author.Tests.{eqb-true}
use Rattle.settings.proofs.Judged.{judged_well, judged_few}
use Rattle.rules_abc.proofs.rule_a.Goals as goal
use Rattle.rules_abc.proofs.rule_a.Goals.{then-n-entries_of, else-n-entries_of}

pub length_for-requires : goal.length_for-requires
length_for-requires c =
    let few = judged_few _ (judged_well _ c.accepted.result c.accepted.ensures (sym c.if-is_err.ensures.value)) in
    elim c.if-n-entries_of.branch [
      | then-n-entries_of w ↦ omega (arith, few, w.if-n-entries_of.true ∙ c.entries_of.ensures)
      | else-n-entries_of w ↦ absurd (w.if-n-entries_of.false (eqb-true _ _ (sym w.value-is ∙ c.if-word-bits_of.true)))
    ]
