-- Promises one after the other.
use mathlib.Core.Path.{◌≡◌, refl, subst}
use mathlib.Core.List.{List}
use Prim.Native.Nat.{ℕ}
use Rattle.meaning.specs.Mem.{Mem}
use Rattle.invariants.specs.Places.{Fine, Repr, Ready, Turns}

-- one step, and then another: what the first asks follows from ok, and ok leaves what the second asks
pub ready_then : {ws ws₁ : List ℕ} {ok ok₁ ok₂ : Mem → Type 0} {f : Mem → Mem}
    → Turns ws ws₁ ok₁ f → ((m : Mem) → Fine m → ok m → ok₁ m) → ((m : Mem) → Fine m → ok m → ok₂ (f m)) → Ready ws ok → Ready ws₁ ok₂
ready_then {f = f} t h g o =
    let m = o.mem in let F = o.repr.fine in record { mem = f m; repr = t.to m o.repr (h m F o.meets); meets = g m F o.meets }

pub turns_then : {ws ws₁ ws₂ : List ℕ} {ok ok₁ ok₂ : Mem → Type 0} {f g h : Mem → Mem}
    → Turns ws ws₁ ok₁ f → Turns ws₁ ws₂ ok₂ g → ((m : Mem) → Fine m → ok m → ok₁ m) → ((m : Mem) → Fine m → ok m → ok₂ (f m)) → ((m : Mem) → g (f m) ≡ h m)
    → Turns ws ws₂ ok h
turns_then {ws₂ = ws₂} {f = f} t u a b e = record { to = λ m R o. subst (Repr ws₂) (e m) (u.to (f m) (t.to m R (a m R.fine o)) (b m R.fine o)) }

-- three steps
pub ready_then₂ : {ws ws₁ ws₂ : List ℕ} {ok ok₁ ok₂ ok₃ : Mem → Type 0} {f g : Mem → Mem}
    → Turns ws ws₁ ok₁ f → Turns ws₁ ws₂ ok₂ g
    → ((m : Mem) → Fine m → ok m → ok₁ m) → ((m : Mem) → Fine m → ok m → ok₂ (f m)) → ((m : Mem) → Fine m → ok m → ok₃ (g (f m))) → Ready ws ok → Ready ws₂ ok₃
ready_then₂ {f = f} {g = g} t u a b c o = ready_then (turns_then {h = λ m. g (f m)} t u a b (λ m. refl)) (λ m F o. o) c o

pub turns_then₃ : {ws ws₁ ws₂ ws₃ : List ℕ} {ok ok₁ ok₂ ok₃ : Mem → Type 0} {f g h i : Mem → Mem}
    → Turns ws ws₁ ok₁ f → Turns ws₁ ws₂ ok₂ g → Turns ws₂ ws₃ ok₃ h
    → ((m : Mem) → Fine m → ok m → ok₁ m) → ((m : Mem) → Fine m → ok m → ok₂ (f m)) → ((m : Mem) → Fine m → ok m → ok₃ (g (f m))) → ((m : Mem) → h (g (f m)) ≡ i m)
    → Turns ws ws₃ ok i
turns_then₃ {f = f} {g = g} t u v a b c e = turns_then (turns_then {h = λ m. g (f m)} t u a b (λ m. refl)) v (λ m F o. o) c e

-- a promise under another condition and for another name of the result
pub turns_as : {ws ws' : List ℕ} {ok ok' : Mem → Type 0} {f g : Mem → Mem} → Turns ws ws' ok f → ((m : Mem) → Repr ws m → ok' m → ok m × (f m ≡ g m)) → Turns ws ws' ok' g
turns_as {ws' = ws'} t h = record { to = λ m R o. subst (Repr ws') (h m R o).1 (t.to m R (h m R o).0) }

-- what is ready for one thing is ready for another
pub ready_as : {ws : List ℕ} {ok ok' : Mem → Type 0} → Ready ws ok → ((m : Mem) → Repr ws m → ok m → ok' m) → Ready ws ok'
ready_as o h = record { mem = o.mem; repr = o.repr; meets = h o.mem o.repr o.meets }
