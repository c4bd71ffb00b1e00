-- What tables do with a net, with one table more. Internal definitions: the law is in UseLaws.
use Rattle.std.specs.Prelude.{ℕ, ◌||◌, eqb}
use Rattle.lists.specs.Trusted.Tests.{elem}
use Rattle.table.specs.declared.Table.{Table}
use Rattle.table.specs.Trusted.Records.{reads}
use Rattle.part_records.specs.declared.Uses.{Uses}

abbrev pub with_table : Uses → Table → ℕ → Uses
with_table u t n = record { driven = u.driven || eqb t.net n; read = u.read || elem n (reads t) }
