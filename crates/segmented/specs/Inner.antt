-- What segmented LRU's inner steps ask of a directory, and what they promise.
use Rattle.std.specs.Prelude.{ℕ}
use Rattle.meaning.specs.Mem.{Mem, to_front}
use Rattle.meaning.specs.Room.{Done, hit_at}
use Rattle.meaning.specs.Segmented.{spill}

-- A hit on entry e of P, which goes to the front of Q; Q spills.
unfoldable pub hit_spill : ℕ → Mem → Done
hit_spill e m = hit_at m e (spill (to_front e 2 m))
