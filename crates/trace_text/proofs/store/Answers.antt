use mathlib.Core.Path.{sym, ◌∙◌}
use lib.ListN.{length}
use Rattle.std.proofs.lemmas.List.{set-get_or}
use Rattle.trace_text.proofs.Reading.{store_stop}
use Rattle.trace_text.proofs.store.Goals as goal

pub returns-in_default : goal.returns-in_default
returns-in_default c =
    let l = c.loop-word in
    set-get_or l.trace l.word-index 0 ∙ sym (l.invariant ∙ store_stop (length c.args.trace.now) l.word-index l.rest.now l.trace (sym c.in_default.ensures))
