use Rattle.trace_text.proofs.Writing.{text_put}
use Rattle.trace_text.proofs.put_text.Goals as goal

pub returns : goal.returns
returns c =
    let a = c.args in let s = a.settings in
    text_put a.out.now s.policy s.capacity s.first s.second a.trace.now c.put_line-a.ensures c.put_line-b.ensures c.put_line-c.ensures c.put_line-d.ensures c.put_line-e.ensures c.put_pages.ensures
