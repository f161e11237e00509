-- What may be read, and how large the header words are.
use Prim.Native.Nat.{ℕ, ◌+◌, ◌*◌, ◌≤◌, ◌<◌}
use mathlib.Core.Path.{◌≡◌, ◌∙◌}
use mathlib.Core.List.{List}
use native.Mathlib.Omega.{arith}
use lib.ListN.{length}
use Rattle.meaning.specs.Mem.{Mem, E, bits_in}
use Rattle.invariants.specs.Places.{top, Ready}

-- entry i may be read
pub entry_room : {ws : List ℕ} {ok : Mem → Type 0} {i n : ℕ} → Ready ws ok → n ≡ E ws → i < n → 16 + 8 * i + 8 ≤ length ws
entry_room o e h = omega (arith, o.repr.holds.size, e ∙ o.repr.holds.at (top 2) (omega arith))

pub few_le : {ws : List ℕ} {ok : Mem → Type 0} → Ready ws ok → E ws ≤ 1024
few_le o = rw (o.repr.holds.at (top 2) (omega arith)) o.repr.fine.few

pub bits_le : {ws : List ℕ} {ok : Mem → Type 0} → Ready ws ok → bits_in ws ≤ 32
bits_le o = rw (o.repr.holds.at (top 3) (omega arith)) o.repr.fine.bits
