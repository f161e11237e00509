-- What room for a page and a request have to show of the held pages, whatever the policy.
use Rattle.std.specs.Prelude.{ℕ, ◌<◌, ◌≡◌}
use Rattle.meaning.specs.Neighbours.{NONE}
use Rattle.meaning.specs.Mem.{Mem}
use Rattle.meaning.specs.Room.{hit, swapped, Done, Room}
use Rattle.invariants.specs.Proper.{Sits}

-- Room made in m: all held pages stay in their slots but the one put out, which was held in the slot that is now free.
pub record Makes (m : Mem) (r : Room) : Type 0 where
  pub sits : {q s : ℕ} → Sits q s r.mem → Sits q s m
  pub stay : {q s : ℕ} → Sits q s m → (q ≡ r.out → ⊥) → Sits q s r.mem
  pub gone : (r.out ≡ NONE → ⊥) → Sits r.out r.slot m × ((s : ℕ) → Sits r.out s r.mem → ⊥)
  pub pages : (p : ℕ) → p < NONE → (i : ℕ) → r.mem.pages i ≡ p → m.pages i ≡ p

-- A request for p on m: ok holds afterwards, of which the page asked for is in the slot that is named; a hit found it there, and any other answer did not find it;
-- the others stay but the one put out, which was held in the slot that is named; and only Swapped puts one out.
pub record Served (ok : Mem → Type 0) (m : Mem) (p : ℕ) (d : Done) : Type 0 where
  pub keeps : ok d.mem
  pub here : Sits p d.reply.slot d.mem
  pub known : d.reply.kind ≡ hit → Sits p d.reply.slot m
  pub new : (d.reply.kind ≡ hit → ⊥) → (s : ℕ) → Sits p s m → ⊥
  pub others : (q s : ℕ) → Sits q s d.mem → (q ≡ p → ⊥) → Sits q s m
  pub stay : (q s : ℕ) → Sits q s m → (q ≡ d.reply.out → ⊥) → Sits q s d.mem
  pub gone : d.reply.kind ≡ swapped → Sits d.reply.out d.reply.slot m × ((s : ℕ) → Sits d.reply.out s d.mem → ⊥)
  pub none : (d.reply.kind ≡ swapped → ⊥) → d.reply.out ≡ NONE
