-- What an add and a reservation leave as it was.
use Rattle.std.specs.Prelude.{ℕ, ◌-◌, ◌≤◌, ◌<◌, ◌≡◌, refl, List, length}
use Rattle.std.proofs.Common.{arith, sym, ap, subst}
use Rattle.tree.specs.Trusted.Limits.{code_base}
use Rattle.part.specs.Trusted.Parts.{Shaped}
use Rattle.part.specs.Trusted.Ways.{Way, least, NumberBy}
use Rattle.part.proofs.WayLaws.{reading_right, number_unique, some_tables, chosen_number}
use Rattle.part.specs.Trusted.Answers.{Answer, accepted, refused}
use Rattle.part.specs.Trusted.Add.{Add}
use Rattle.part.specs.Trusted.Reservations.{SetAside}
use Rattle.part.proofs.AddLaws.{Kept, AddCase, unsound, misread, driven, read, full, taken, add_case, not_refused}
use Rattle.part.specs.declared.Part.{Part}

-- an add leaves what is reserved
pub add_reserved : {w : Way} {p : Part} {text : List ℕ} {q : Part} {a : Answer} → AddCase w p text q a → q.reservation ≡ p.reservation
add_reserved (unsound n r) = ap (λ q. q.reservation) r.0
add_reserved (misread number place h e r) = ap (λ q. q.reservation) r.0
add_reserved (driven s h e d r) = ap (λ q. q.reservation) r.0
add_reserved (read s h e d i r) = ap (λ q. q.reservation) r.0
add_reserved (full s n h e f l m r) = ap (λ q. q.reservation) r.0
add_reserved (taken s h e f t room) = ap (λ q. q.reservation) t.part

-- an add that is turned down hands back the part that it got
pub refused_stays : (w : Way) (p : Part) (text : List ℕ) (q : Part) (a : Answer) (number place : ℕ) → Add w p text q a → a ≡ refused number place → q ≡ p
refused_stays w p text q a number place h e = go (add_case w p text q a h)
  where
    go : AddCase w p text q a → q ≡ p
    go (unsound n r) = r.0
    go (misread n l g i r) = r.0
    go (driven s g i d r) = r.0
    go (read s g i d j r) = r.0
    go (full s n g i f l m r) = r.0
    go (taken s g i f t room) = absurd (not_refused e t.answer)

-- a reservation keeps soundness, the shape, K and the capacity
module _ (p : Part) (shape : Shaped p) (text : List ℕ) (o : Part) (h : Add least p text o accepted) where
  pub aside_kept : (q : Part) → SetAside least p text q → Kept p q
  aside_kept q a = subst (Kept p) (sym a.part) (record {
    same_k = refl;
    same_capacity = refl;
    shaped = record { records = shape.records; inputs = shape.inputs };
    sound = λ s. record {
      k_range = s.k_range;
      capacity_range = s.capacity_range;
      used_fits = s.used_fits;
      rest_blank = s.rest_blank;
      rules = s.rules;
      reservation = record {
        fits = of (add_case least p text o accepted h);
        both = (λ e. absurd (omega (arith, some_tables least p a.sheet a.count a.number, e)), λ e. absurd (omega (arith, net.0, e)));
        range = omega (arith, net.1);
      };
    };
  })
    where
      net : (0 < a.sheet.out) × (a.sheet.out < code_base)
      net = (reading_right least text a.sheet a.read).legal.out_net

      of : AddCase least p text o accepted → a.count ≤ p.capacity - p.used
      of (unsound n r) = absurd (not_refused r.1 refl)
      of (misread number place g i r) = absurd (not_refused r.1 refl)
      of (driven u g i d r) = absurd (not_refused r.1 refl)
      of (read u g i d j r) = absurd (not_refused r.1 refl)
      of (full u n g i f l m r) = absurd (not_refused r.1 refl)
      of (taken u g i f t room) =
          let e = a.read in
          let same : u ≡ a.sheet = cc in
          omega (arith, room, number_unique least p a.sheet a.number (subst (λ v. NumberBy least p v (length t.new)) same (chosen_number least p u t.new t.chosen)))
