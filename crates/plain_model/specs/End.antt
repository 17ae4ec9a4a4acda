-- How a walk ended.
use Rattle.bmp_specs.specs.Walk as walk
use Rattle.bmp_specs.specs.Walk.{Verdict}
use Rattle.plain_model.specs.declared.stream.End.{End}
use Rattle.plain_model.specs.declared.stream.End.TheVariants.{Whole, More, Terminated, Broken}

-- the verdict of the walk
abbrev pub verdict_of : End → Verdict
verdict_of Whole = walk.whole
verdict_of More = walk.more
verdict_of Terminated = walk.terminated
verdict_of (Broken why) = walk.broken why
