-- What is counted stands in the buffer.
use Rattle.bench_sheet.proofs.Laws.{fits}
use Rattle.bench_sheet.proofs.calls.list.Goals as goal

pub slice_bounds-result-end : goal.slice_bounds-result-end
slice_bounds-result-end g c = (fits c.in-Ok.ensures).0

pub slice_bounds-line-end : goal.slice_bounds-line-end
slice_bounds-line-end g c = (fits c.in-Ok.ensures).1
