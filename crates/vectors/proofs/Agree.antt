-- The definitions agree with the second program on every request and every damage that it wrote down, by computation.
use lib.Dec.{T}
use Rattle.meaning.specs.Base.{all}
use Rattle.meaning.specs.Text.{open_text}
use Rattle.vectors.specs.Vector.{agrees, judged, misfits}
use Rattle.vectors.specs.Requests1 as requests1
use Rattle.vectors.specs.Requests2 as requests2
use Rattle.vectors.specs.Requests3 as requests3
use Rattle.vectors.specs.Requests4 as requests4
use Rattle.vectors.specs.Damages1 as damages1
use Rattle.vectors.specs.Damages2 as damages2
use Rattle.vectors.specs.Damages3 as damages3
use Rattle.vectors.specs.Damages4 as damages4
use Rattle.vectors.specs.Damages5 as damages5
use Rattle.vectors.specs.Damages6 as damages6
use Rattle.vectors.specs.Damages7 as damages7
use Rattle.vectors.specs.Damages8 as damages8
use Rattle.vectors.specs.Damages9 as damages9
use Rattle.vectors.specs.Damages10 as damages10

pub requests1_hold : T (all agrees requests1.traces)
unfolding open_text
requests1_hold = tt

pub requests2_hold : T (all agrees requests2.traces)
unfolding open_text
requests2_hold = tt

pub requests3_hold : T (all agrees requests3.traces)
unfolding open_text
requests3_hold = tt

pub requests4_hold : T (all agrees requests4.traces)
unfolding open_text
requests4_hold = tt

pub damages1_hold : T (all judged damages1.damages)
unfolding open_text
damages1_hold = tt

pub damages2_hold : T (all judged damages2.damages)
unfolding open_text
damages2_hold = tt

pub damages3_hold : T (all judged damages3.damages)
unfolding open_text
damages3_hold = tt

pub damages4_hold : T (all judged damages4.damages)
unfolding open_text
damages4_hold = tt

pub damages5_hold : T (all judged damages5.damages)
unfolding open_text
damages5_hold = tt

pub damages6_hold : T (all judged damages6.damages)
unfolding open_text
damages6_hold = tt

pub damages7_hold : T (all judged damages7.damages)
unfolding open_text
damages7_hold = tt

pub damages8_hold : T (all judged damages8.damages)
unfolding open_text
damages8_hold = tt

pub damages9_hold : T (all judged damages9.damages)
unfolding open_text
damages9_hold = tt

pub damages10_hold : T (all misfits damages10.damages)
unfolding open_text
damages10_hold = tt
