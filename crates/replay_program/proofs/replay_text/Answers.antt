use mathlib.Core.Path.{sym, ◌∙◌}
use lib.ListN.{take}
use lib.Seq.{length-take-le}
use native.Mathlib.Omega.{arith}
use Rattle.meaning.proofs.Exits.{passed_on}
use Rattle.meaning.specs.Answers.{asked}
use Rattle.replay_program.proofs.Playing.{after_replay, after_form, form_ends, after_length, length_ends, long_enough, exact, stored, after_read, read_ends}
use Rattle.replay_program.proofs.replay_text.Goals as goal

pub returns-in_err-head : goal.returns-in_err-head
returns-in_err-head c = rw (passed_on _ c.from_residual.ensures.1) (read_ends c.args.text.now _ _ c.requires.0 c.in_err-head.ensures)

pub returns-in_err-n : goal.returns-in_err-n
returns-in_err-n c =
    rw (passed_on _ c.from_residual-in_err-n.ensures.1)
    (length_ends (asked c.in_ok-head.head.settings) _ c.in_err-n.ensures ∙ after_read c.args.text.now _ _ c.requires.0 c.in_ok-head.ensures)

-- The words asked for are among those lent.
pub slice_bounds-directory-end : goal.slice_bounds-directory-end
slice_bounds-directory-end c = omega (arith, long_enough (asked c.in_ok-head.head.settings) c.in_ok-n.ensures, c.requires)

pub slice_bounds-directory-end-2 : goal.slice_bounds-directory-end-2
slice_bounds-directory-end-2 c = exact c.args.words.now (long_enough (asked c.in_ok-head.head.settings) c.in_ok-n.ensures) c.requires.1

pub returns-in_err-form : goal.returns-in_err-form
returns-in_err-form c =
    let s = asked c.in_ok-head.head.settings in let ws = take c.in_ok-n.n c.args.words.now in
    rw (passed_on _ c.from_residual-in_err-form.ensures.1)
    (form_ends s ws _ c.in_err-form.ensures
    ∙ after_length s _ ws c.in_ok-n.ensures (exact c.args.words.now (long_enough s c.in_ok-n.ensures) c.requires.1)
    ∙ after_read c.args.text.now _ _ c.requires.0 c.in_ok-head.ensures)

-- The pages stand in the trace buffer.
pub slice_bounds-replay-end : goal.slice_bounds-replay-end
slice_bounds-replay-end c = stored c.args.text.now _ _ c.requires.0 c.in_ok-head.ensures

pub slice_bounds-replay-end-2 : goal.slice_bounds-replay-end-2
slice_bounds-replay-end-2 c = sym (length-take-le _ _ (stored c.args.text.now _ _ c.requires.0 c.in_ok-head.ensures))

pub returns : goal.returns
returns c =
    let s = asked c.in_ok-head.head.settings in let ws = take c.in_ok-n.n c.args.words.now in
    after_replay c.replay.ensures
    ∙ after_form s ws _ c.in_ok-form.ensures
    ∙ after_length s _ ws c.in_ok-n.ensures (exact c.args.words.now (long_enough s c.in_ok-n.ensures) c.requires.1)
    ∙ after_read c.args.text.now _ _ c.requires.0 c.in_ok-head.ensures
