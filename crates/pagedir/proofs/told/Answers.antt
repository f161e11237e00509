use Rattle.pagedir.proofs.Laws.{all_told}
use Rattle.pagedir.proofs.told.Goals as goal

pub returns-in-Ok : goal.returns-in-Ok
returns-in-Ok g c = let k = c.copy_from_slice.ensures in all_told c.args.said c.in-Ok.is k.len k.after
