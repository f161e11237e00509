use Rattle.settings.proofs.Judged.{names_one}
use Rattle.policies.proofs.Requesting.{sound_long, names_policy}
use Rattle.policies.proofs.requests.policy_of.Goals as goal

pub word-requires : goal.word-requires
word-requires c = sound_long _ c.requires

pub unwrap-requires : goal.unwrap-requires
unwrap-requires c = names_one _ _ c.try_from.ensures (names_policy _ c.requires c.word.ensures)
