-- The lines of records, and of one record. Internal definitions: the laws are in SlackLaws.
use Rattle.std.specs.Prelude.{ℕ, cond, List, [], eqb}
use Rattle.lists.specs.Trusted.Lists.{gather}
use Rattle.table.specs.declared.Table.{Table}
use Rattle.slacks.specs.Trusted.Slack.{slack_line, drivers}

-- the lines of the records that drive a net
abbrev pub slack_text : (wanted : ℕ) → List Table → List ℕ
slack_text wanted rs = gather (λ r. slack_line wanted r.net r.level) (drivers rs)

-- the line of a record with this net and this level, and none for the net 0
abbrev pub driver_line : (wanted net level : ℕ) → List ℕ
driver_line wanted net level = cond (eqb net 0) [] (slack_line wanted net level)
