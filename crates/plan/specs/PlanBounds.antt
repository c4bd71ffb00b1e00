-- How long a plan is.
use Rattle.std.specs.Prelude.{ℕ, ◌+◌, ◌*◌, ◌≡◌, List, length}
use Rattle.std.proofs.Common.{arith, length-append}
use Rattle.lists.specs.ListLaws.{permuted_length}
use Rattle.plan.specs.declared.Key.{Key}
use Rattle.plan.specs.declared.Token.{Token}
use Rattle.plan.specs.Plans.{Denotes, fanin, binary, Planned}

-- two steps for each fanin, but the first
denotes_length : {K : ℕ} {ks : List Key} {p : List Token} {ns : List ℕ} {k : Key} → Denotes K ks p ns k → length p + 1 ≡ 2 * length ns
denotes_length (fanin i l) = omega arith
denotes_length (binary {p = p} {q = q} {ms = ms} {ns = ns} {l = l} {r = r} x y w) =
    simp length-append (omega (arith, denotes_length x, denotes_length y))

pub planned_length : {K : ℕ} {ks : List Key} {ns : List ℕ} {p : List Token} {k : Key} → Planned K ks ns p k →
    length p + 1 ≡ 2 * length ns
planned_length x = omega (arith, denotes_length x.denotes, permuted_length x.once)
