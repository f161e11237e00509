-- Never the wrong slot: what RAM holds when each loaded page is put where the answers said.
use Rattle.std.specs.Prelude.{ℕ, ◌<◌, ◌≡◌, List, [], ◌∷◌}
use Rattle.meaning.specs.Neighbours.{NONE, put}
use Rattle.meaning.specs.Mem.{Mem}
use Rattle.meaning.specs.Room.{Kind, hit, loaded, swapped, Reply, Done}
use Rattle.invariants.specs.Proper.{Seated, Sits}

-- RAM after an answer for the page p: a hit leaves it, and any other answer loads p into the slot
unfoldable pub loads_as : Kind → (ℕ → ℕ) → ℕ → ℕ → ℕ → ℕ
loads_as hit ram s p = ram
loads_as loaded ram s p = put ram s p
loads_as swapped ram s p = put ram s p

unfoldable pub loads : Reply → ℕ → (ℕ → ℕ) → ℕ → ℕ
loads r p ram = loads_as r.kind ram r.slot p

-- every held page is in RAM, in its slot
abbrev pub Right : (ℕ → ℕ) → Mem → Type 0
Right ram m = (q s : ℕ) → Sits q s m → ram s ≡ q

-- what a policy's step has to show, once
pub record Steps (ok : Mem → Type 0) (step : Mem → ℕ → Done) : Type 0 where
  pub seated : (m : Mem) → ok m → Seated m
  pub keeps : (m : Mem) (p : ℕ) → ok m → p < NONE → ok (step m p).mem
  pub here : (m : Mem) (p : ℕ) → ok m → p < NONE → Sits p (step m p).reply.slot (step m p).mem
  pub known : (m : Mem) (p : ℕ) → ok m → p < NONE → (step m p).reply.kind ≡ hit → Sits p (step m p).reply.slot m
  pub others : (m : Mem) (p : ℕ) → ok m → p < NONE → (q s : ℕ) → Sits q s (step m p).mem → (q ≡ p → ⊥) → Sits q s m

unfoldable pub Pages : List ℕ → Type 0
Pages [] = Unit {0}
Pages (p ∷ ps) = (p < NONE) × Pages ps
