-- The policy's step is the request's.
use Rattle.std.proofs.Common.{◌≡◌, refl, ℕ, sym, ap, ◌∙◌}
use Rattle.settings.specs.Policies.{number_of}
use Rattle.settings.specs.declared.Policy.{Policy}
use Rattle.policies.proofs.Requesting.{ready_lru, ready_clock, ready_segmented, ready_two_q, ready_arc, step_lru, step_clock, step_segmented, step_two_q, step_arc}
use Rattle.policies.proofs.requests.step.Goals as goal

-- the policy that was met is the one that word 0 names
met : {p q : Policy} {x : ℕ} → number_of p ≡ x → p ≡ q → x ≡ number_of q
met e z = sym e ∙ ap number_of z

pub lru_step-requires-clause-ready : goal.lru_step-requires-clause-ready
lru_step-requires-clause-ready c = ready_lru _ c.requires.words_value refl (met c.policy_of.ensures c.in-Lru.is)

pub returns-in-Lru : goal.returns-in-Lru
returns-in-Lru c = step_lru _ c.requires.words_value refl c.requires.page_bound (met c.policy_of.ensures c.in-Lru.is) c.lru_step.ensures

pub clock_step-requires-clause-ready : goal.clock_step-requires-clause-ready
clock_step-requires-clause-ready c = ready_clock _ c.requires.words_value refl (met c.policy_of.ensures c.in-Clock.is)

pub returns-in-Clock : goal.returns-in-Clock
returns-in-Clock c = step_clock _ c.requires.words_value refl c.requires.page_bound (met c.policy_of.ensures c.in-Clock.is) c.clock_step.ensures

pub segmented_step-requires-clause-ready : goal.segmented_step-requires-clause-ready
segmented_step-requires-clause-ready c = ready_segmented _ c.requires.words_value refl (met c.policy_of.ensures c.in-Segmented.is)

pub returns-in-Segmented : goal.returns-in-Segmented
returns-in-Segmented c = step_segmented _ c.requires.words_value refl c.requires.page_bound (met c.policy_of.ensures c.in-Segmented.is) c.segmented_step.ensures

pub two_q_step-requires-clause-ready : goal.two_q_step-requires-clause-ready
two_q_step-requires-clause-ready c = ready_two_q _ c.requires.words_value refl (met c.policy_of.ensures c.in-TwoQ.is)

pub returns-in-TwoQ : goal.returns-in-TwoQ
returns-in-TwoQ c = step_two_q _ c.requires.words_value refl c.requires.page_bound (met c.policy_of.ensures c.in-TwoQ.is) c.two_q_step.ensures

pub arc_step-requires-clause-ready : goal.arc_step-requires-clause-ready
arc_step-requires-clause-ready c = ready_arc _ c.requires.words_value refl (met c.policy_of.ensures c.in-Arc.is)

pub returns-in-Arc : goal.returns-in-Arc
returns-in-Arc c = step_arc _ c.requires.words_value refl c.requires.page_bound (met c.policy_of.ensures c.in-Arc.is) c.arc_step.ensures
