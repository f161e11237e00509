-- The three counts of a replay add up to the trace's length.
use Prim.Native.Nat.{ℕ, ◌+◌}
use mathlib.Core.Path.{◌≡◌, ap, ◌∙◌}
use mathlib.Core.Bool.{true}
use mathlib.Core.List.{List, [], ◌∷◌, map}
use native.Mathlib.Omega.{arith}
use lib.ListN.{length}
use Rattle.meaning.specs.Mem.{words, decode}
use Rattle.meaning.specs.Room.{Kind, hit, loaded, swapped, Reply}
use Rattle.meaning.specs.Policies.{request}
use Rattle.meaning.specs.Rules.{sound}
use Rattle.meaning.specs.Calls.{Outcome, ask, happens, run, Counts, none, counted, counted_by, counting, in_turn, answered}
use Rattle.invariants.specs.Ram.{Pages}
use Rattle.invariants.proofs.Back.{whole_sound}
use Rattle.sound.proofs.Door.{door}
use Rattle.theorems.proofs.Whole.{request_whole}
use Rattle.policies.proofs.Requesting.{request_is}
use Rattle.replay.specs.Replays.{sum}

one_more : (c : Counts) (k : Kind) → sum (counted c k) ≡ sum c + 1
unfolding counted
one_more c hit = omega arith
one_more c loaded = omega arith
one_more c swapped = omega arith

-- Each request for a page, on a sound directory, is counted once.
adds_up : (t : List ℕ) (c : Counts) (ws : List ℕ) → sound ws ≡ true → Pages t → sum (run happens counting c ws (map ask t)).gathered ≡ sum c + length t
unfolding run happens counting Pages answered
adds_up [] c ws s h = omega arith
adds_up (p ∷ t) c ws s h =
    let d = request (decode ws) p in
    let still = whole_sound d.mem (request_whole (decode ws) p (door ws s).1 h.0) in
    ap (λ (o : Outcome Reply (List ℕ)). sum (run happens counting (counted_by c o.said) o.left (map ask t)).gathered) (request_is ws p s h.0)
    ∙ omega (arith, adds_up t (counted c d.reply.kind) (words d.mem) still h.1, one_more c d.reply.kind)

-- The three counts of a replay add up to the trace's length.
pub counts_add_up : (ws t : List ℕ) → sound ws ≡ true → Pages t → sum (in_turn ws t).gathered ≡ length t
unfolding in_turn
counts_add_up ws t s h = omega (arith, adds_up t none ws s h)
