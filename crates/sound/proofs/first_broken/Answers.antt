use Rattle.readers.proofs.Sizes.{sized}
use Rattle.sound.proofs.first_broken.Goals as goal

pub invariant_of-d : goal.invariant_of-d
invariant_of-d c = record { sized = sized c.args.words.now (cc) }
