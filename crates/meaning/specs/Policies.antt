-- Document 01, "The five policies": a request goes by the policy in word 0.
use Rattle.std.specs.Prelude.{ℕ, eqb, if◌then◌else◌}
use Rattle.meaning.specs.Mem.{Mem, policy_of}
use Rattle.meaning.specs.Room.{open_room, Done}
use Rattle.meaning.specs.Lru.{lru_room, lru}
use Rattle.meaning.specs.Clock.{advance, sweep, seats, clock_swap, clock_load, clock}
use Rattle.meaning.specs.Segmented.{spill, segmented}
use Rattle.meaning.specs.TwoQ.{trimmed, trimmed_room, make_room, two_q}
use Rattle.meaning.specs.Arc.{step_of, grown, shrunk, from_t1, replace, arc_b1, arc_b2, arc_full_row, arc_under, arc}

-- The answer to a request for a page, and the directory after it: 1 LRU, 2 CLOCK, 3 segmented, 4 2Q, 5 ARC.
unfoldable pub request : Mem → ℕ → Done
request m page =
    if eqb (policy_of m) 1 then lru m page else
    if eqb (policy_of m) 2 then clock m page else
    if eqb (policy_of m) 3 then segmented m page else
    if eqb (policy_of m) 4 then two_q m page else
    arc m page

-- For a proof that computes: `unfolding open_policies` opens every definition of this file and of the files below it.
unfoldable pub open_policies : Unit {0}
unfolding open_room lru_room lru advance sweep seats clock_swap clock_load clock spill segmented trimmed trimmed_room make_room two_q step_of grown shrunk from_t1 replace arc_b1 arc_b2 arc_full_row arc_under arc request
open_policies = tt
