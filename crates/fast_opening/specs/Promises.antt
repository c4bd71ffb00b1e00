-- What the code's value stands for. Internal definition.
use Rattle.opening.specs.Promises.{told}
use Rattle.fast_opening.specs.Trusted.FastOpening.{FastStart}
use Rattle.fast_opening.specs.declared.FastOpening.{FastOpening}

abbrev pub fast_start : FastOpening → FastStart
fast_start s = record { part = s.part; answer = told s.told; wanted = s.wanted }
