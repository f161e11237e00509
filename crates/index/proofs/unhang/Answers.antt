use Rattle.index.proofs.Hanging.{unhang_turns, hung_room}
use Rattle.index.proofs.unhang.Goals as goal

pub put-requires : goal.put-requires
put-requires c =
    hung_room _ _ c.requires c.cell-page.ensures
    c.bucket_at-b.ensures.0 c.link_at-at.ensures

pub returns : goal.returns
returns c = unhang_turns (cc)
