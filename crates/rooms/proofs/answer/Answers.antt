use Rattle.rooms.proofs.Rooming.{says_loaded, says_swapped}
use Rattle.rooms.proofs.answer.Goals as goal

pub returns-in-None : goal.returns-in-None
returns-in-None c = says_loaded _ _ c.in-None.is

pub returns-in-Some : goal.returns-in-Some
returns-in-Some c = says_swapped _ _ _ c.in-Some.is
