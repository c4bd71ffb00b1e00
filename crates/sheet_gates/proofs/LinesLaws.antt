-- The gates' lines read one after the other, and on a line the fanins: what is left to read at each moment, and how a step changes it.
use Prim.Native.Nat.{ℕ, zero, suc, ◌+◌, ◌-◌, ◌≤◌, ◌<◌}
use native.Mathlib.Omega.{arith}
use native.Mathlib.Nat.{add-zero}
use native.Mathlib.Numerals.{add-one}
use mathlib.Core.Path.{◌≡◌, refl, sym, ap, ap₂, ◌∙◌}
use mathlib.Core.Option.{Option, none, some}
use Rattle.std.specs.Prelude.{Result, Ok, Err}
use mathlib.Core.List.{List, [], ◌∷◌, ◌++◌, append_assoc, append-nil}
use lib.ListN.{length, get_or, take, drop, set, replicate, length-set, length-take, length-drop, length-map, get_or-map, drop_of_length-le}
use lib.Seq.{drop-cons, get_or-drop, get_or-take, length-take-le}
use Rattle.std.proofs.lemmas.Result.{IfOk-at_ok}
use Rattle.lists.specs.ListLaws.{every_none}
use Rattle.lists.specs.Trusted.Checked.{Checked, passed, refused, ◌>>=◌, given}
use Rattle.tree.specs.declared.Kind.{Kind}
use Rattle.tree.specs.Trusted.Limits.{most_fanins}
use Rattle.decimal.specs.Trusted.Number.{Number}
use Rattle.sheet.specs.declared.Source.{Source}
use Rattle.sheet.specs.declared.Edge.{Edge}
use Rattle.sheet.specs.declared.Gate.{Gate}
use Rattle.sheet.specs.declared.Refusal.{Refusal}
use Rattle.sheet_line.specs.declared.FieldValue.{FieldValue}
use Rattle.sheet_line.specs.declared.GateLine.{GateLine}
use Rattle.sheet.specs.Trusted.Limits.{most_fields, most_gates, most_leaves, fanin_room}
use Rattle.sheet.specs.Trusted.Line.{line, fields}
use Rattle.sheet.specs.Trusted.Sheet.{DrawnGate, net_of}
use Rattle.sheet.specs.Trusted.Read.{Seen, nothing, read_fanin, read_fanins, gate_head_of, read_left}
use Rattle.sheet.specs.Trusted.Answers.{number_of, drawn_gate, drawn_gates}
use Rattle.sheet_line.specs.Inside.{value_of, gate_line, fanin_numbers, gate_line_step, GateLineRoom, GateLineRead}
use Rattle.flags.specs.Flags.{raised}
use Rattle.sheet_fanin.specs.Fanins.{flag_words, Marked, saw, fanin_step, FaninTaken, FaninRead}
use Rattle.sheet_line.proofs.HeadLaws.{zero_value}
use Rattle.sheet_fanin.proofs.FaninLaws.{marked_start, marked_more}
use Rattle.sheet.specs.StoreLaws.{Below, drawn_same, taken_more, drawn_more, below_more}
use Rattle.sheet_gates.proofs.RoomLaws.{read_count, count_none, read_most, read_more}

abbrev Gates : Type 0
Gates = List DrawnGate × Seen × List ℕ

-- ---- what is left to read

-- the gates `gs`, and one more, before those that are read after them
abbrev ahead : List DrawnGate → Gates → Checked Gates
ahead gs r = passed (gs ++ r.0, r.1, r.2)

abbrev gate_ahead : List DrawnGate → DrawnGate → Gates → Checked Gates
gate_ahead gs x r = passed (gs ++ (x ∷ r.0), r.1, r.2)

-- the gates `gs` were read, and so many are left, from gate g on
abbrev lines : (out left g : ℕ) → List DrawnGate → Seen → List ℕ → Checked Gates
lines out left g gs seen text = read_left out left g seen text >>= ahead gs

-- the lines after gate g, when its fanins are read
abbrev lines_behind : (out left g : ℕ) → List DrawnGate → Kind → List Edge → List ℕ → List Edge × Seen → Checked Gates
lines_behind out left g gs kind fs rest r = read_left out left (suc g) r.1 rest >>= gate_ahead gs (record { kind = kind; fanins = fs ++ r.0 })

-- of gate g the fanins `fs` were read too, and the numbers `xs` are left
abbrev fanins : (out left g : ℕ) → List DrawnGate → Kind → List Edge → Seen → List Number → List ℕ → Checked Gates
fanins out left g gs kind fs seen xs rest = read_fanins out g seen xs >>= lines_behind out left g gs kind fs rest

module _ (out left g : ℕ) (gs : List DrawnGate) (seen : Seen) where
  pub lines_start : (text : List ℕ) → read_left out left g seen text ≡ lines out left g [] seen text
  unfolding ◌>>=◌
  lines_start text = of (read_left out left g seen text)
    where
      of : (m : Checked Gates) → m ≡ (m >>= ahead [])
      of (passed r) = refl
      of (refused number place) = refl

  abbrev fanins_of : Kind × List Number × List ℕ → Checked Gates
  fanins_of l = fanins out left g gs l.0 [] seen l.1 l.2

  -- as the definition has it: the gate, and then the lines left
  abbrev gate_is : Kind → List Edge × Seen → Checked (DrawnGate × Seen)
  gate_is kind r = passed (record { kind = kind; fanins = r.0 }, r.1)

  abbrev left_is : List ℕ → DrawnGate × Seen → Checked Gates
  left_is rest u = read_left out left (suc g) u.1 rest >>= gate_ahead [] u.0

  abbrev head_is : Kind × List Number → Checked (DrawnGate × Seen)
  head_is q = read_fanins out g seen q.1 >>= gate_is q.0

  abbrev line_is : List ℕ × List ℕ → Checked Gates
  line_is p = (gate_head_of g (fields p.0) >>= head_is) >>= left_is p.1

  abbrev with_the_rest : List ℕ → Kind × List Number → Checked (Kind × List Number × List ℕ)
  with_the_rest rest q = passed (q.0, q.1, rest)

  abbrev gate_line_is : List ℕ × List ℕ → Checked (Kind × List Number × List ℕ)
  gate_line_is p = gate_head_of g (fields p.0) >>= with_the_rest p.1

  -- a line, and then its fanins
  lines_line : (text : List ℕ) → lines out (suc left) g gs seen text ≡ (gate_line g text >>= fanins_of)
  unfolding ◌>>=◌ given
  lines_line text = of_line (line text)
    where
      of_left : (x : DrawnGate) (m : Checked Gates) → ((m >>= gate_ahead [] x) >>= ahead gs) ≡ (m >>= gate_ahead gs x)
      of_left x (passed t) = refl
      of_left x (refused number place) = refl

      of_fanins_lem : (kind : Kind) (rest : List ℕ) (m : Checked (List Edge × Seen)) →
          (((m >>= gate_is kind) >>= left_is rest) >>= ahead gs) ≡ (m >>= lines_behind out left g gs kind [] rest)
      of_fanins_lem kind rest (passed r) = of_left (record { kind = kind; fanins = r.0 }) (read_left out left (suc g) r.1 rest)
      of_fanins_lem kind rest (refused number place) = refl

      of_head : (rest : List ℕ) (m : Checked (Kind × List Number)) →
          (((m >>= head_is) >>= left_is rest) >>= ahead gs) ≡ ((m >>= with_the_rest rest) >>= fanins_of)
      of_head rest (passed q) = of_fanins_lem q.0 rest (read_fanins out g seen q.1)
      of_head rest (refused number place) = refl

      of_line : (o : Option (List ℕ × List ℕ)) → ((given o 1 (suc g) >>= line_is) >>= ahead gs) ≡ ((given o 1 (suc g) >>= gate_line_is) >>= fanins_of)
      of_line none = refl
      of_line (some p) = of_head p.1 (gate_head_of g (fields p.0))

  lines_refused : (text : List ℕ) {number place : ℕ} → gate_line g text ≡ refused number place → lines out (suc left) g gs seen text ≡ refused number place
  unfolding ◌>>=◌
  lines_refused text e = lines_line text ∙ ap (λ m. m >>= fanins_of) e

  lines_passed : (text : List ℕ) {kind : Kind} {xs : List Number} {rest : List ℕ} → gate_line g text ≡ passed (kind, xs, rest) →
      lines out (suc left) g gs seen text ≡ fanins out left g gs kind [] seen xs rest
  unfolding ◌>>=◌
  lines_passed text e = lines_line text ∙ ap (λ m. m >>= fanins_of) e

  module _ (kind : Kind) (fs : List Edge) (rest : List ℕ) where
    pub fanin_bad : (x : Number) (xs : List Number) {number place : ℕ} → read_fanin out g seen x.magnitude ≡ refused number place →
        fanins out left g gs kind fs seen (x ∷ xs) rest ≡ refused number place
    unfolding ◌>>=◌
    fanin_bad x xs e = rw e

    abbrev fanin_ahead : Edge → List Edge × Seen → Checked (List Edge × Seen)
    fanin_ahead f r = passed (f ∷ r.0, r.1)

    pub fanin_good : (x : Number) (xs : List Number) {s : Source} {seen₁ : Seen} → read_fanin out g seen x.magnitude ≡ passed (s, seen₁) →
        fanins out left g gs kind fs seen (x ∷ xs) rest ≡ fanins out left g gs kind (fs ++ (record { inverted = x.negative; source = s } ∷ [])) seen₁ xs rest
    unfolding ◌>>=◌
    fanin_good x xs {s} {seen₁} e = rw e (of (record { inverted = x.negative; source = s }) (read_fanins out g seen₁ xs))
      where
        of : (f : Edge) (m : Checked (List Edge × Seen)) →
            ((m >>= fanin_ahead f) >>= lines_behind out left g gs kind fs rest) ≡ (m >>= lines_behind out left g gs kind (fs ++ (f ∷ [])) rest)
        of f (passed r) =
            ap (λ l. read_left out left (suc g) r.1 rest >>= gate_ahead gs (record { kind = kind; fanins = l })) (sym (append_assoc fs (f ∷ []) r.0))
        of f (refused number place) = refl

    pub fanins_done : fanins out left g gs kind fs seen [] rest ≡ lines out left (suc g) (gs ++ (record { kind = kind; fanins = fs } ∷ [])) seen rest
    unfolding ◌>>=◌
    fanins_done = of (read_left out left (suc g) seen rest)
      where
        of : (m : Checked Gates) →
            (m >>= gate_ahead gs (record { kind = kind; fanins = fs ++ [] })) ≡ (m >>= ahead (gs ++ (record { kind = kind; fanins = fs } ∷ [])))
        of (passed t) =
            ap (λ l. gate_ahead gs (record { kind = kind; fanins = l }) t) (append-nil fs)
            ∙ ap (λ l. passed (l, t.1, t.2)) (sym (append_assoc gs (record { kind = kind; fanins = fs } ∷ []) t.0))
        of (refused number place) = refl

pub lines_done : (out g : ℕ) (gs : List DrawnGate) (seen : Seen) (text : List ℕ) → lines out zero g gs seen text ≡ passed (gs, seen, text)
unfolding ◌>>=◌
lines_done out g gs seen text = ap (λ l. passed (l, seen, text)) (append-nil gs)

-- ---- the numbers of a gate's fanins

fanin_at : (l : GateLine) (i : ℕ) → length l.numbers ≡ most_fields → l.count ≤ most_fanins → i < l.count →
    drop i (fanin_numbers l) ≡ value_of (get_or l.numbers (i + 2) zero_value) ∷ drop (i + 1) (fanin_numbers l)
fanin_at l i w n h =
    let xs = drop 2 l.numbers in
    let many : length (take l.count xs) ≡ l.count = length-take-le l.count xs (simp length-drop (omega arith)) in
    drop-cons (fanin_numbers l) i (value_of zero_value) (simp length-map (omega arith))
    ∙ (ap (λ x. x ∷ drop (suc i) (fanin_numbers l))
    (get_or-map value_of (take l.count xs) i zero_value
    ∙ ap value_of (get_or-take l.count xs i zero_value h
    ∙ (get_or-drop 2 l.numbers i zero_value ∙ ap (λ k. get_or l.numbers k zero_value) (let q : 2 + i ≡ i + 2 = omega arith in q))))
    ∙ ap (λ k. value_of (get_or l.numbers (i + 2) zero_value) ∷ drop k (fanin_numbers l)) (sym (add-one i)))

fanins_over : (l : GateLine) (i : ℕ) → l.count ≤ i → drop i (fanin_numbers l) ≡ []
fanins_over l i h = drop_of_length-le (fanin_numbers l) {i = i} (simp (length-map, length-take) (omega arith))

-- ---- what holds while the lines are read

module _ (text : List ℕ) (start out count : ℕ) where
  abbrev all : Checked Gates
  all = read_left out count 1 nothing (drop start text)

  -- at a gate's line
  pub record AtLine (gates : List Gate) (fs : List Edge) (used : ℕ) (words : List ℕ) (leaves at g : ℕ) : Type 0 where
    pub far : g ≤ count
    pub inside : at ≤ length text
    pub room : length gates ≡ most_gates
    pub wide : length fs ≡ fanin_room
    pub below : Below used (take g gates)
    pub read : used ≡ read_count words leaves
    pub seen : Seen
    pub marked : Marked words leaves seen
    pub few : leaves ≤ most_leaves
    pub same : all ≡ lines out (count - g) (g + 1) (drawn_gates fs g gates) seen (drop at text)

  -- at a fanin of gate g + 1
  pub record AtFanin (gates : List Gate) (fs : List Edge) (used : ℕ) (words : List ℕ) (leaves g : ℕ) (l : GateLine) (i : ℕ) : Type 0 where
    pub far : g < count
    pub room : length gates ≡ most_gates
    pub wide : length fs ≡ fanin_room
    pub below : Below used (take g gates)
    pub read : used + i ≡ read_count words leaves
    pub whole : length l.numbers ≡ most_fields
    pub within : l.count ≤ most_fanins
    pub some_left : i ≤ l.count
    pub ends : l.end ≤ length text
    pub seen : Seen
    pub marked : Marked words leaves seen
    pub few : leaves ≤ most_leaves
    pub same : all ≡ fanins out (count - (g + 1)) (g + 1) (drawn_gates fs g gates) l.kind (take i (drop used fs)) seen (drop i (fanin_numbers l)) (drop l.end text)

  pub at_start : (gates : List Gate) (fs : List Edge) → length gates ≡ most_gates → length fs ≡ fanin_room → start ≤ length text →
      AtLine gates fs 0 (replicate flag_words 0) 0 start 0
  at_start gates fs r w l = record {
    far = omega arith;
    inside = l;
    room = r;
    wide = w;
    below = every_none _;
    read = sym count_none;
    seen = nothing;
    marked = marked_start;
    few = omega arith;
    same = lines_start out count 1 [] nothing (drop start text)
        ∙ ap (λ n. lines out n 1 [] nothing (drop start text)) (let q : count ≡ count - 0 = omega arith in q);
  }

  module _ {gates : List Gate} {fs : List Edge} {used : ℕ} {words : List ℕ} {leaves at g : ℕ} (h : AtLine gates fs used words leaves at g) where
    one_left : g < count → all ≡ lines out (suc (count - (g + 1))) (g + 1) (drawn_gates fs g gates) h.seen (drop at text)
    one_left l = h.same ∙ ap (λ n. lines out n (g + 1) (drawn_gates fs g gates) h.seen (drop at text)) (let q : count - g ≡ suc (count - (g + 1)) = omega arith in q)

    pub line_refused : g < count → (r : Result GateLine Refusal) → GateLineRead text at r → (why : Refusal) → r ≡ Err why → all ≡ refused (number_of why) (g + 1 + 1)
    line_refused k r d why e =
        one_left k
        ∙ (lines_refused out (count - (g + 1)) (g + 1) (drawn_gates fs g gates) h.seen (drop at text)
        (d.step (g + 1) ∙ ap (gate_line_step (g + 1) text) e)
        ∙ ap (refused (number_of why)) (sym (add-one (g + 1))))

    pub line_taken : g < count → (r : Result GateLine Refusal) → GateLineRead text at r → (l : GateLine) → r ≡ Ok l → AtFanin gates fs used words leaves g l 0
    line_taken k r d l e = let room : GateLineRoom text l = IfOk-at_ok (GateLineRoom text) e d.room in record {
      far = k;
      room = h.room;
      wide = h.wide;
      below = h.below;
      read = add-zero used ∙ h.read;
      whole = room.whole;
      within = room.within;
      some_left = omega arith;
      ends = room.ends;
      seen = h.seen;
      marked = h.marked;
      few = h.few;
      same = one_left k ∙ lines_passed out (count - (g + 1)) (g + 1) (drawn_gates fs g gates) h.seen (drop at text)
          (d.step (g + 1) ∙ ap (gate_line_step (g + 1) text) e);
    }

    pub lines_over : count ≤ g → all ≡ passed (drawn_gates fs count gates, h.seen, drop at text)
    lines_over l =
        h.same
        ∙ (ap (λ n. lines out n (g + 1) (drawn_gates fs g gates) h.seen (drop at text)) (let q : count - g ≡ 0 = omega arith in q)
        ∙ (lines_done out (g + 1) (drawn_gates fs g gates) h.seen (drop at text) ∙ ap (λ n. passed (drawn_gates fs n gates, h.seen, drop at text)) (let q : g ≡ count = omega arith in q)))

  module _ {gates : List Gate} {fs : List Edge} {used : ℕ} {words : List ℕ} {leaves g : ℕ} {l : GateLine} {i : ℕ}
      (h : AtFanin gates fs used words leaves g l i) where
    abbrev number : FieldValue
    number = get_or l.numbers (i + 2) zero_value

    one_number : i < l.count →
        all ≡ fanins out (count - (g + 1)) (g + 1) (drawn_gates fs g gates) l.kind (take i (drop used fs)) h.seen (value_of number ∷ drop (i + 1) (fanin_numbers l)) (drop l.end text)
    one_number k =
        h.same
        ∙ ap (λ xs. fanins out (count - (g + 1)) (g + 1) (drawn_gates fs g gates) l.kind (take i (drop used fs)) h.seen xs (drop l.end text)) (fanin_at l i h.whole h.within k)

    pub fanin_refused : i < l.count → (r : Result Source Refusal) → FaninRead words leaves out (g + 1) number.magnitude r → (why : Refusal) → r ≡ Err why →
        all ≡ refused (number_of why) (g + 1 + 1)
    fanin_refused k r f why e =
        one_number k
        ∙ (fanin_bad out (count - (g + 1)) (g + 1) (drawn_gates fs g gates) h.seen l.kind (take i (drop used fs)) (drop l.end text) (value_of number) (drop (i + 1) (fanin_numbers l))
        (f.step h.seen h.marked ∙ ap (fanin_step (g + 1) h.seen) e)
        ∙ ap (refused (number_of why)) (sym (add-one (g + 1))))

    module _ (b : g + 1 ≤ most_gates) (r : Result Source Refusal) (d : FaninRead words leaves out (g + 1) number.magnitude r) (s : Source) (e : r ≡ Ok s) where
      accepted : FaninTaken words leaves (g + 1) number.magnitude s
      accepted = IfOk-at_ok (FaninTaken words leaves (g + 1) number.magnitude) e d.taken

      read_next : used + (i + 1) ≡ read_count (raised words number.magnitude) (leaves + length (net_of s))
      read_next =
          let q = read_more words h.marked.whole (g + 1) number.magnitude leaves b s accepted.source accepted.first in
          omega (arith, q, h.read)

      -- there is room for it
      pub fanin_room_lem : used + i < fanin_room
      fanin_room_lem =
          let q = read_most (raised words number.magnitude) (leaves + length (net_of s)) (accepted.few h.few) in
          omega (arith, q, read_next)

      pub fanin_taken : i < l.count → (f : Edge) → f ≡ record { inverted = (value_of number).negative; source = s } → (n : ℕ) → n ≡ leaves + length (net_of s) →
          (ws : List ℕ) → ws ≡ raised words number.magnitude → AtFanin gates (set fs (used + i) f) used ws n g l (i + 1)
      fanin_taken k f p n q ws u = record {
        far = h.far;
        room = h.room;
        wide = simp length-set h.wide;
        below = h.below;
        read = read_next ∙ ap₂ read_count (sym u) (sym q);
        whole = h.whole;
        within = h.within;
        some_left = omega arith;
        ends = h.ends;
        seen = saw h.seen s;
        marked = rw (u, q) (marked_more (g + 1) number.magnitude b h.marked s accepted.source);
        few = omega (arith, accepted.few h.few);
        same =
            one_number k
            ∙ (fanin_good out (count - (g + 1)) (g + 1) (drawn_gates fs g gates) h.seen l.kind (take i (drop used fs)) (drop l.end text) (value_of number) (drop (i + 1) (fanin_numbers l))
            (d.step h.seen h.marked ∙ ap (fanin_step (g + 1) h.seen) e)
            ∙ ap₂ (λ gs es. fanins out (count - (g + 1)) (g + 1) gs l.kind es (saw h.seen s) (drop (i + 1) (fanin_numbers l)) (drop l.end text))
            (sym (drawn_same fs (used + i) f (take g gates) h.below (omega arith)))
            (sym (taken_more fs used i f (omega (arith, h.wide, fanin_room_lem)) ∙ ap (λ x. take i (drop used fs) ++ (x ∷ [])) p)));
      }

    module _ (k : l.count ≤ i) where
      all_taken : i ≡ l.count
      all_taken = omega (arith, h.some_left)

      -- the place after its fanins
      pub after_room : used + l.count ≤ fanin_room
      after_room = let q = read_most words leaves h.few in omega (arith, all_taken, h.read)

      pub gate_taken : count ≤ most_gates → (x : Gate) → x ≡ record { kind = l.kind; count = l.count; first = used } →
          AtLine (set gates g x) fs (used + l.count) words leaves l.end (g + 1)
      gate_taken m x e = record {
        far = omega arith;
        inside = h.ends;
        room = simp length-set h.room;
        wide = h.wide;
        below = below_more gates g x (omega (arith, h.far, h.room)) h.below (omega arith) (omega (arith, ap (λ y. y.first + y.count) e));
        read = ap (λ n. used + n) (sym all_taken) ∙ h.read;
        seen = h.seen;
        marked = h.marked;
        few = h.few;
        same =
            h.same
            ∙ (ap (λ xs. fanins out (count - (g + 1)) (g + 1) (drawn_gates fs g gates) l.kind (take i (drop used fs)) h.seen xs (drop l.end text)) (fanins_over l i k)
            ∙ (fanins_done out (count - (g + 1)) (g + 1) (drawn_gates fs g gates) h.seen l.kind (take i (drop used fs)) (drop l.end text)
            ∙ (ap (λ n. lines out (count - (g + 1)) n (drawn_gates fs g gates ++ (record { kind = l.kind; fanins = take i (drop used fs) } ∷ [])) h.seen (drop l.end text)) (sym (add-one (g + 1)))
            ∙ (ap (λ n. lines out (count - (g + 1)) (g + 1 + 1) (drawn_gates fs g gates ++ (record { kind = l.kind; fanins = take n (drop used fs) } ∷ [])) h.seen (drop l.end text)) all_taken
            ∙ ap (λ gs. lines out (count - (g + 1)) (g + 1 + 1) gs h.seen (drop l.end text))
            (sym (drawn_more gates g x (omega (arith, h.far, h.room)) fs ∙ ap (λ y. drawn_gates fs g gates ++ (drawn_gate fs y ∷ [])) e))))));
      }
