-- Demand 3: over every list of calls, from any part, the tables taken, their number, and the used count.
use Rattle.std.specs.Prelude.{ℕ, ◌≡◌, refl, List, ◌∷◌, ◌++◌}
use Rattle.std.proofs.Common.{arith, ap, ◌∙◌, subst}
use Rattle.lists.specs.Trusted.Lists.{Every}
use Rattle.lists.specs.ListLaws.{every_none, every_cons, every_head, every_left, every_right}
use Rattle.part.specs.Trusted.Parts.{available, Shaped}
use Rattle.part.specs.Trusted.Tries.{Try, CallResult}
use Rattle.part.proofs.AddLaws.{Kept, same_kept, kept_trans}
use Rattle.part.specs.declared.Part.{Part}
use Rattle.demands.specs.Trusted.Calls.{Call, withheld, Promise, Chain, done, call, final, SheetEntry, sheet_entries, accepted_in, Link, here, next}
use Rattle.demands.specs.Trusted.Demands.{Total, left, Accounted, CallAccounted, Demand3}
use Rattle.demands.proofs.TryLaws.{Trying, CountGrown, none_grown, grown_append, try_accounted, line_kept, line_reserved, line_grown}
use Rattle.demands.proofs.CallLaws.{call_tries, call_tried, call_ahead, call_reserved, stands_kept, call_kept, call_grown}

pub chain_kept : {p : Part} {cs : List Call} {rs : List CallResult} → Chain p cs rs → Shaped p → Kept p (final p rs)
chain_kept {p} done shape = same_kept p shape p refl
chain_kept {p} (call {c = c} {r = r} h t) shape = let k = call_kept p shape c r h in kept_trans k (chain_kept t k.shaped)

chain_grown : {p : Part} {cs : List Call} {rs : List CallResult} → Chain p cs rs → Shaped p → CountGrown (accepted_in rs) p.used (final p rs).used
chain_grown {p} done shape = none_grown p.used p.used refl
chain_grown {p} (call {c = c} {r = r} h t) shape =
    grown_append (call_grown p shape c r h) (chain_grown t (call_kept p shape c r h).shaped)

abbrev Same : Part → CallResult → Type 0
Same p r = (r.part.k ≡ p.k) × (r.part.capacity ≡ p.capacity)

chain_same : {p : Part} {cs : List Call} {rs : List CallResult} → Chain p cs rs → Shaped p → Every (Same p) rs
chain_same done shape = every_none _
chain_same {p} (call {c = c} {r = r} h t) shape =
    let k = call_kept p shape c r h in
    every_cons (k.same_k, k.same_capacity) (λ u m. let e = chain_same t k.shaped u m in (e.0 ∙ k.same_k, e.1 ∙ k.same_capacity))

-- a call of a list, and what is known of the part that it was given, from the part p on
record Since (p : Part) (es : List SheetEntry) (o : Part) (c : Call) (r : CallResult) : Type 0 where
  kept : Kept p o
  grown : CountGrown es p.used o.used
  promise : Promise o c r

since : {p o : Part} {cs : List Call} {rs : List CallResult} {es : List SheetEntry} {d : Call} {t : CallResult} → Link p cs rs es o d t → Chain p cs rs → Shaped p →
    Since p es o d t
since {p} here (call h g) shape = record { kept = same_kept p shape p refl; grown = none_grown p.used p.used refl; promise = h }
since {p} (next {c = c} {r = r} l) (call h g) shape =
    let k = call_kept p shape c r h in
    let z = since l g k.shaped in
    record { kept = kept_trans k z.kept; grown = grown_append (call_grown p shape c r h) z.grown; promise = z.promise }

call_accounted : (p : Part) (es : List SheetEntry) (o : Part) (c : Call) (r : CallResult) → Since p es o c r → CallAccounted p es o c r
call_accounted p es o c r z = record { tried = call_tried o c r z.promise; each = each; reservation = call_reserved o c r z.promise }
  where
    each : (ahead : List Try) (t : Try) (rest : List Try) → r.tries ≡ ahead ++ t ∷ rest → (n : ℕ) × Total (es ++ sheet_entries ahead) n × (t.before.k ≡ p.k) × Accounted (left p n (withheld c o).count) t
    each ahead t rest e =
        let l = call_ahead o c r z.promise ahead t rest e in
        let all : Every Trying (ahead ++ t ∷ rest) = subst (Every Trying) e (call_tries o c r z.promise) in
        let before : Every Trying ahead = every_left ahead (t ∷ rest) all in
        let stands = stands_kept c o z.kept.shaped in
        let k = kept_trans z.kept (kept_trans stands (line_kept l before stands.shaped)) in
        let g = grown_append z.grown (line_grown l before stands.shaped) in
        let aside : t.before.reservation.count ≡ (withheld c o).count = ap (λ x. x.count) (line_reserved l before) in
        let f : available t.before ≡ left p g.sum (withheld c o).count = omega (arith, g.count, k.same_capacity, aside) in
        (g.sum, g.total, k.same_k, subst (λ n. Accounted n t) f (try_accounted t k.shaped (every_head (every_right ahead (t ∷ rest) all))))

-- DEMAND 3
pub counted : (p : Part) → Shaped p → (cs : List Call) (rs : List CallResult) → Chain p cs rs → Demand3 p cs rs
counted p shape cs rs h =
    let g = chain_grown h shape in
    record { each = λ es o c r l. call_accounted p es o c r (since l h shape); used = (g.sum, g.total, g.count); same = chain_same h shape }
