-- How many bytes of an input decide what is printed for it. Internal definitions: the law is `front_decides` in FrontLaws.
use Rattle.std.specs.Prelude.{ℕ}

unfoldable pub front_bytes : ℕ
front_bytes = 131072
