use Rattle.list_reading.specs.Trusted.ReadList.{read_list}
use Rattle.list_sets.specs.ListSetLaws.{read_beside}
use Rattle.list_sets.proofs.read_reserved.Goals as goal

pub returns : goal.returns
returns c =
    let a = c.args in
    read_beside c.read_list-read.result (read_list a.list.now) c.read_list-read.ensures (record { count = a.reserved; net = a.net })
