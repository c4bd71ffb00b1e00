-- The run of a plan on tables follows the run of the plan on covers: each operand is the table of its fragment, and what is placed
-- are the fragments' tables.
use Rattle.std.specs.Prelude.{ℕ, zero, suc, ◌+◌, ◌≤◌, ◌<◌, ◌≡◌, Bool, true, false, cond, length, get_or}
use Rattle.std.proofs.Common.{arith, ◌∙◌, subst, subst₂, length-append}
use Rattle.std.proofs.Math.Path.{refl, sym, ap, ap₂, fun_ext}
use mathlib.Core.List.{List, [], ◌∷◌, ◌++◌, append_assoc, append-nil}
use Rattle.lists.specs.Cases.{by_eqb}
use Rattle.lists.specs.Trusted.Lists.{Permuted, sorted, gather}
use Rattle.lists.specs.Sequences.{upto}
use Rattle.lists.specs.ListLaws.{every_none, every_cons, every_head, every_append, permuted_sym, permuted_trans, permuted_append, permuted_to, permuted_from}
use Rattle.lists.specs.NumberLaws.{sorted_permuted, sorted_sorted, sorted_only}
use Rattle.tree.specs.declared.Kind.{Kind}
use Rattle.tree.specs.declared.Kind.TheVariants.{And as and, Or as or}
use Rattle.tree.specs.Trusted.Tree.{Edges, turned, meet, unit}
use Rattle.cover.specs.Trusted.Bits.{bit, digit}
use Rattle.cover.specs.Trusted.Cover.{Cover, net, top, Fanins, end, pick}
use Rattle.cover.specs.Trusted.Tables.{LookupTable, output, tabled, numbered}
use Rattle.cover.specs.Eval.{Agree, tabled_output, numbered_append}
use Rattle.cover.specs.Trusted.Placed.{code, codes, codes*, held, held*, gate_table, records*}
use Rattle.cover.proofs.Value.{held_same, held_same*}
use Rattle.plan.specs.declared.Key.{Key}
use Rattle.plan.specs.declared.Token.{Token}
use Rattle.plan.specs.declared.Token.TheVariants.{Join as join}
use Rattle.plan.specs.Key.{KeyTaken, held as kept, cut, KeyJoined}
use Rattle.plan.specs.Plans.{Denotes, fanin, binary, Planned, Fragment, drawn, made, marked, place_fragment, PlanSays, Runs, stop, pushed, joined, Ready, ready_none, ready_edge, Body}
use Rattle.plan.specs.Fragments.{FragmentOf, as_drawn, as_made, ready_names, fragment_join}
use Rattle.plan.specs.PlanLaws.{runs_append, plan_body}
use Rattle.plan.specs.Placings.{inner, inside, own, placings, plan_placed}
use Rattle.mapper_laws.specs.Mapping.{Low, Early}
use Rattle.pending.specs.Operands.{Operand, single, merged}
use Rattle.mapper_laws.specs.Run.{merge, State, operand, tables_after, run_token, run_plan}

meet_unit_right : (k : Kind) (b : Bool) → meet k b (unit k) ≡ b
meet_unit_right and true = refl
meet_unit_right and false = refl
meet_unit_right or true = refl
meet_unit_right or false = refl

-- a table with the value of one code
pub single_is : (c : ℕ) → single c ≡ tabled 0 (c ∷ []) (λ e. e c)
single_is c =
    by_eqb
    (λ b. single c ≡ record { drives = 0; inputs = c ∷ []; truth = digit (bit 0 (cond b 0 1)) (digit (bit 1 (cond b 0 1)) 0) })
    c c (λ e. refl) (λ d. absurd (d refl))

sorted_twice : (xs ys : List ℕ) → sorted (sorted xs ++ sorted ys) ≡ sorted (xs ++ ys)
sorted_twice xs ys = sorted_only (permuted_trans (permuted_sym (permuted_append (sorted_permuted xs) (sorted_permuted ys))) (sorted_permuted (xs ++ ys))) (sorted_sorted (xs ++ ys))

-- ---- what an operand holds

module _ (base : ℕ) (k : Kind) where
  -- a fragment with the mark m, as a fanin of a gate of the kind k: whether it is inverted, the codes that it reads, and its value
  abbrev pub inverts : Fragment → Bool
  inverts (drawn q) = q.0
  inverts (made s) = false

  abbrev pub item_codes : ℕ → Fragment → List ℕ
  item_codes m (drawn q) = codes base (marked m q.1)
  item_codes m (made s) = code base m (codes* base s)

  abbrev pub item_held : ℕ → Fragment → (ℕ → Bool) → Bool
  item_held m (drawn q) e = held base (marked m q.1) e
  item_held m (made s) e = pick m (held* base s k e) (e (base + m))

  place_codes : (m : ℕ) (f : Fragment) (fs : Fanins) → codes* base (place_fragment m f fs) ≡ item_codes m f ++ codes* base fs
  place_codes m (drawn q) fs = refl
  place_codes m (made s) fs = refl

  place_held : (m : ℕ) (f : Fragment) (fs : Fanins) (e : ℕ → Bool) →
      held* base (place_fragment m f fs) k e ≡ meet k (turned (inverts f) (item_held m f e)) (held* base fs k e)
  place_held m (drawn q) fs e = refl
  place_held m (made s) fs e = refl

  made_same : (m : ℕ) (s : Fanins) (d e : ℕ → Bool) → Agree d e (code base m (codes* base s)) →
      pick m (held* base s k d) (d (base + m)) ≡ pick m (held* base s k e) (e (base + m))
  made_same zero s d e h = held_same* base d e s k h
  made_same (suc m) s d e h = every_head h

  item_same : (m : ℕ) (f : Fragment) (d e : ℕ → Bool) → Agree d e (item_codes m f) → item_held m f d ≡ item_held m f e
  item_same m (drawn q) d e h = held_same base d e (marked m q.1) h
  item_same m (made s) d e h = made_same m s d e h

  -- the operand is the fragment's, with the mark m
  pub record Shows (m : ℕ) (x : Operand) (f : Fragment) : Type 0 where
    pub inverted : x.inverted ≡ inverts f
    pub table : x.table ≡ tabled 0 (sorted (item_codes m f)) (item_held m f)

  shown_output : (m : ℕ) (x : Operand) (f : Fragment) → Shows m x f → (e : ℕ → Bool) → output x.table e ≡ item_held m f e
  shown_output m x f s e =
      ap (λ t. output t e) s.table
      ∙ tabled_output 0 (sorted (item_codes m f)) (item_held m f)
      (λ d e h. item_same m f d e (permuted_from (sorted_permuted (item_codes m f)) h)) e

  -- merged operands are those of the gate that joins the fragments
  shown_merge : (m n : ℕ) (x y : Operand) (f g : Fragment) → Shows m x f → Shows n y g → Shows 0 (merge k x y) (made (place_fragment m f (place_fragment n g end)))
  unfolding merged
  shown_merge m n x y f g s t = record { inverted = refl; table = ap₂ (tabled 0) inputs value }
    where
      inputs : sorted (x.table.inputs ++ y.table.inputs) ≡ sorted (codes* base (place_fragment m f (place_fragment n g end)))
      inputs =
          ap₂ (λ a b. sorted (a.inputs ++ b.inputs)) s.table t.table ∙ sorted_twice (item_codes m f) (item_codes n g)
          ∙ ap sorted (sym (place_codes m f (place_fragment n g end) ∙ ap (λ xs. item_codes m f ++ xs) (place_codes n g end ∙ append-nil (item_codes n g))))

      value : ◌≡◌ {A = (ℕ → Bool) → Bool} (λ e. meet k (turned x.inverted (output x.table e)) (turned y.inverted (output y.table e)))
          (λ e. held* base (place_fragment m f (place_fragment n g end)) k e)
      value = fun_ext (λ e.
          ap₂ (meet k) (ap₂ turned s.inverted (shown_output m x f s e)) (ap₂ turned t.inverted (shown_output n y g t e)
          ∙ sym (meet_unit_right k (turned (inverts g) (item_held n g e))) ∙ sym (place_held n g end e))
          ∙ sym (place_held m f (place_fragment n g end) e))

  -- a fragment that can be placed
  abbrev pub IsGate : Fragment → Type 0
  IsGate (drawn (i, net n)) = ⊥
  IsGate (drawn (i, top m j fs)) = Unit {0}
  IsGate (made s) = Unit {0}

  -- its table is the operand's, and where it is placed the operand is the table's code
  own_placed : (m : ℕ) (x : Operand) (f : Fragment) → IsGate f → Shows 0 x f → own base k (suc m) f ≡ (suc m, x.table) ∷ []
  own_placed m x (drawn (i, net n)) g s = absurd g
  own_placed m x (drawn (i, top z j fs)) g s = ap (λ t. (suc m, t) ∷ []) (sym s.table)
  own_placed m x (made fs) g s = ap (λ t. (suc m, t) ∷ []) (sym s.table)

  shown_placed : (m : ℕ) (x : Operand) (f : Fragment) → IsGate f → Shows 0 x f →
      Shows (suc m) (record { inverted = x.inverted; table = single (base + suc m) }) f
  shown_placed m x (drawn (i, net n)) g s = absurd g
  shown_placed m x (drawn (i, top z j fs)) g s = record { inverted = s.inverted; table = single_is (base + suc m) }
  shown_placed m x (made fs) g s = record { inverted = s.inverted; table = single_is (base + suc m) }

  -- ---- placing as a flag says, after the tables `ts`

  module _ (n : ℕ) where
    -- the mark that an operand gets
    abbrev pub mark_of : Bool → List LookupTable → ℕ
    mark_of false ts = 0
    mark_of true ts = suc (n + length ts)

    mark_says : (l : Bool) (ts : List LookupTable) → PlanSays l (mark_of l ts)
    mark_says false ts = refl
    mark_says true ts = omega arith

    -- what is placed
    abbrev pub placed_tables : Bool → Operand → List LookupTable
    placed_tables false x = []
    placed_tables true x = x.table ∷ []

    tables_added : (l : Bool) (ts : List LookupTable) (x : Operand) → tables_after base n l ts x ≡ ts ++ placed_tables l x
    tables_added false ts x = sym (append-nil ts)
    tables_added true ts x = refl

    -- where a flag says to place, it is a gate
    abbrev pub Places : Bool → Fragment → Type 0
    Places false f = Unit {0}
    Places true f = IsGate f

    shown_operand : (l : Bool) (ts : List LookupTable) (x : Operand) (f : Fragment) → Places l f → Shows 0 x f → Shows (mark_of l ts) (operand base n l ts x) f
    shown_operand false ts x f g s = s
    shown_operand true ts x f g s = shown_placed (n + length ts) x f g s

    own_added : (l : Bool) (ts : List LookupTable) (x : Operand) (f : Fragment) → Places l f → Shows 0 x f →
        own base k (mark_of l ts) f ≡ numbered (n + length ts) (placed_tables l x)
    own_added false ts x (drawn (i, net z)) g s = refl
    own_added false ts x (drawn (i, top z j fs)) g s = refl
    own_added false ts x (made fs) g s = refl
    own_added true ts x f g s = own_placed (n + length ts) x f g s

    -- ---- codes: those that stand after b tables

    low_more : {b d : ℕ} (t : LookupTable) → b ≤ d → Low base b t → Low base d t
    low_more t l h c m = let i = h c m in omega arith

    low_operand : (l : Bool) (ts : List LookupTable) (x : Operand) → Low base (n + length ts) x.table →
        Low base (n + length (tables_after base n l ts x)) (operand base n l ts x).table
    low_operand false ts x h = h
    low_operand true ts x h = every_cons (simp length-append (omega arith)) (every_none _)

    low_merged : (b : ℕ) (x y : Operand) → Low base b x.table → Low base b y.table → Low base b (merged k x y)
    unfolding merged
    low_merged b x y g h = permuted_to (sorted_permuted (x.table.inputs ++ y.table.inputs)) (every_append x.table.inputs y.table.inputs g h)

    early_added : (l : Bool) (ts : List LookupTable) (x : Operand) → Low base (n + length ts) x.table → Early base (numbered (n + length ts) (placed_tables l x))
    early_added false ts x h = every_none _
    early_added true ts x h = every_cons (λ c m. let i = h c m in omega arith) (every_none _)

    -- ---- the run

    placings_append : {ds : List (Bool × Cover)} {p q : List Token} {st st' st'' : List Fragment} (a : Runs ds p st st') (b : Runs ds q st' st'') →
        placings base k ds (runs_append a b) ≡ placings base k ds a ++ placings base k ds b
    unfolding runs_append
    placings_append stop b = refl
    placings_append (pushed a) b = placings_append a b
    placings_append {ds} (joined {x = x} {y = y} m m' d e a) b =
        ap (λ ps. own base k m x ++ (own base k m' y ++ ps)) (placings_append a b)
        ∙ ap (λ ps. own base k m x ++ ps) (sym (append_assoc (own base k m' y) (placings base k ds a) (placings base k ds b)))
        ∙ sym (append_assoc (own base k m x) (own base k m' y ++ placings base k ds a) (placings base k ds b))

    run_append : (fanins : List Operand) (p q : List Token) (s : State) → run_plan base n k fanins (p ++ q) s ≡ run_plan base n k fanins q (run_plan base n k fanins p s)
    run_append fanins [] q s = refl
    run_append fanins (t ∷ p) q s = run_append fanins p q (run_token base n k fanins t s)

    -- only a gate is wide enough to be placed
    taken_places : {K : ℕ} {es : Edges} {f : Fragment} {ns : List ℕ} {a b : Key} {l : Bool} → FragmentOf K es f ns a → KeyTaken a l b → Places l f
    taken_places s kept = tt
    taken_places (as_drawn {q = (i, net z)} s h) (cut w) = absurd (omega (arith, s.inputs))
    taken_places (as_drawn {q = (i, top m j fs)} s h) (cut w) = tt
    taken_places (as_made p h f w c i) (cut v) = tt

    module _ {K : ℕ} {es : Edges} {ds : List (Bool × Cover)} {ks : List Key} (r : Ready K es ds ks) (fanins : List Operand)
        (shown : (i : ℕ) → i < length ks → Shows 0 (get_or fanins i (record { inverted = false; table = single 0 })) (drawn (get_or ds i (false, net 0))))
        (early : (i : ℕ) → i < length ks → Low base n (get_or fanins i (record { inverted = false; table = single 0 })).table) where
      -- a run of the plan p, of the fanins `ns`, with the key a
      pub record Followed (p : List Token) (ns : List ℕ) (a : Key) (st : List Operand) (ts : List LookupTable) (sf : List Fragment) : Type 0 where
        pub top : Operand
        pub fragment : Fragment
        pub new : List LookupTable
        pub runs : Runs ds p sf (fragment ∷ sf)
        pub placing : placings base k ds runs ≡ numbered (n + length ts) new
        pub ends : run_plan base n k fanins p (record { stack = st; placed = ts }) ≡ record { stack = top ∷ st; placed = ts ++ new }
        pub shows : Shows 0 top fragment
        pub stands : FragmentOf K es fragment ns a
        pub low : Low base (n + length (ts ++ new)) top.table
        pub earlier : Early base (numbered (n + length ts) new)

      module _ {p q : List Token} {ms ns : List ℕ} {a b c : Key} {st : List Operand} (ts : List LookupTable) {sf : List Fragment} (l d : Bool) (w : KeyJoined K l d a b c)
          (x : Followed p ms a st ts sf) (y : Followed q ns b (x.top ∷ st) (ts ++ x.new) (x.fragment ∷ sf)) where
        -- the tables before the join, after its left operand, and after both; and those that it places
        abbrev before : List LookupTable
        before = (ts ++ x.new) ++ y.new

        abbrev between : List LookupTable
        between = tables_after base n l before x.top

        abbrev after : List LookupTable
        after = tables_after base n d between y.top

        abbrev lefts : List LookupTable
        lefts = placed_tables l x.top

        abbrev rights : List LookupTable
        rights = placed_tables d y.top

        abbrev left_mark : ℕ
        left_mark = mark_of l before

        abbrev right_mark : ℕ
        right_mark = mark_of d between

        left_places : Places l x.fragment
        left_places = taken_places x.stands w.took_left

        right_places : Places d y.fragment
        right_places = taken_places y.stands w.took_right

        after_is : after ≡ ts ++ (x.new ++ (y.new ++ (lefts ++ rights)))
        after_is =
            tables_added d between y.top ∙ ap (λ us. us ++ rights) (tables_added l before x.top) ∙ simp append_assoc

        between_length : length between ≡ length before + length lefts
        between_length = ap length (tables_added l before x.top) ∙ length-append before lefts

        numbers : numbered (n + length ts) (x.new ++ (y.new ++ (lefts ++ rights))) ≡
            numbered (n + length ts) x.new ++ (numbered (n + length (ts ++ x.new)) y.new ++ (numbered (n + length before) lefts ++ numbered (n + length between) rights))
        numbers =
            numbered_append (n + length ts) (n + length (ts ++ x.new)) x.new (y.new ++ (lefts ++ rights)) (simp length-append (omega arith))
            ∙ ap (λ ps. numbered (n + length ts) x.new ++ ps)
            (numbered_append (n + length (ts ++ x.new)) (n + length before) y.new (lefts ++ rights) (simp length-append (omega arith))
            ∙ ap (λ ps. numbered (n + length (ts ++ x.new)) y.new ++ ps)
            (numbered_append (n + length before) (n + length between) lefts rights (omega (arith, between_length))))

        left_low : Low base (n + length before) x.top.table
        left_low = low_more x.top.table (simp length-append (omega arith)) x.low

        right_low : Low base (n + length between) y.top.table
        right_low = low_more y.top.table (omega (arith, between_length)) y.low

        after_length : n + length between ≤ n + length after
        after_length = omega (arith, ap length (tables_added d between y.top), length-append between rights)

        abbrev join_run : Runs ds (join l d ∷ []) (y.fragment ∷ x.fragment ∷ sf) (made (place_fragment left_mark x.fragment (place_fragment right_mark y.fragment end)) ∷ sf)
        join_run = joined left_mark right_mark (mark_says l before) (mark_says d between) stop

        followed_join : Followed (p ++ (q ++ (join l d ∷ []))) (ms ++ ns) c st ts sf
        followed_join = record {
          top = merge k (operand base n l before x.top) (operand base n d between y.top);
          fragment = made (place_fragment left_mark x.fragment (place_fragment right_mark y.fragment end));
          new = x.new ++ (y.new ++ (lefts ++ rights));
          runs = runs_append x.runs (runs_append y.runs join_run);
          placing =
              placings_append x.runs (runs_append y.runs join_run)
              ∙ ap₂ ◌++◌ x.placing (placings_append y.runs join_run ∙ ap₂ ◌++◌ y.placing
              (ap₂ ◌++◌ (own_added l before x.top x.fragment left_places x.shows)
              (append-nil (own base k right_mark y.fragment) ∙ own_added d between y.top y.fragment right_places y.shows)))
              ∙ sym numbers;
          ends =
              run_append fanins p (q ++ (join l d ∷ [])) (record { stack = st; placed = ts })
              ∙ ap (run_plan base n k fanins (q ++ (join l d ∷ []))) x.ends
              ∙ run_append fanins q (join l d ∷ []) (record { stack = x.top ∷ st; placed = ts ++ x.new })
              ∙ ap (run_plan base n k fanins (join l d ∷ [])) y.ends
              ∙ ap (λ us. record { stack = merge k (operand base n l before x.top) (operand base n d between y.top) ∷ st; placed = us }) after_is;
          shows =
              shown_merge left_mark right_mark (operand base n l before x.top) (operand base n d between y.top) x.fragment y.fragment
              (shown_operand l before x.top x.fragment left_places x.shows)
              (shown_operand d between y.top y.fragment right_places y.shows);
          stands = fragment_join K es left_mark right_mark x.stands y.stands w (mark_says l before) (mark_says d between);
          low =
              rw (← after_is)
              (low_merged (n + length after) (operand base n l before x.top) (operand base n d between y.top)
              (low_more (operand base n l before x.top).table after_length (low_operand l before x.top left_low))
              (low_operand d between y.top right_low));
          earlier =
              rw numbers
              (every_append (numbered (n + length ts) x.new) _ x.earlier
              (every_append (numbered (n + length (ts ++ x.new)) y.new) _ y.earlier
              (every_append (numbered (n + length before) lefts) _ (early_added l before x.top left_low) (early_added d between y.top right_low))));
        }

      followed : {p : List Token} {ns : List ℕ} {a : Key} → Denotes K ks p ns a → (st : List Operand) (ts : List LookupTable) (sf : List Fragment) → Followed p ns a st ts sf
      followed (fanin i l) st ts sf =
          let q = ready_names K r i l in
          record {
            top = get_or fanins i (record { inverted = false; table = single 0 });
            fragment = drawn (get_or ds i (false, net 0));
            new = [];
            runs = pushed stop;
            placing = refl;
            ends = ap (λ us. record { stack = get_or fanins i (record { inverted = false; table = single 0 }) ∷ st; placed = us }) (sym (append-nil ts));
            shows = shown i l;
            stands = as_drawn q.1 q.2;
            low = low_more (get_or fanins i (record { inverted = false; table = single 0 })).table (omega arith) (early i l);
            earlier = every_none _;
          }
      followed (binary {p = p} {q = q} {ms = ms} {ns = ns} {k = c} {l = l} {r = d} u v w) st ts sf =
          let x = followed u st ts sf in
          let y = followed v (x.top ∷ st) (ts ++ x.new) (x.fragment ∷ sf) in
          followed_join ts l d w x y

      ready_length : {ds : List (Bool × Cover)} {es : Edges} {ks : List Key} → Ready K es ds ks → length ds ≡ length ks
      ready_length ready_none = refl
      ready_length (ready_edge s t) = ap suc (ready_length t)

      -- what the run of a gate's plan leaves: the gate's fanins, split, with the table that holds the gate, and the tables placed
      pub record Gated (p : List Token) (a : Key) : Type 0 where
        pub body : Fanins
        pub new : List LookupTable
        pub ends : run_plan base n k fanins p (record { stack = []; placed = [] }) ≡ record { stack = record { inverted = false; table = gate_table base 0 false k body } ∷ []; placed = new }
        pub runs : Runs ds p [] (made body ∷ [])
        pub is : Body K es a body
        pub taken : Permuted (gather (λ q. inner base q.1) ds ++ numbered n new) (records* base body k)
        pub low : Low base (n + length new) (gate_table base 0 false k body)
        pub earlier : Early base (numbered n new)

      module _ {p : List Token} {ns : List ℕ} {a : Key} (y : Followed p ns a [] [] []) (body : Fanins) (f : y.fragment ≡ made body) where
        start : n + length {A = LookupTable} [] ≡ n
        start = omega arith

        body_shows : Shows 0 y.top (made body)
        body_shows = rw f at y.shows

        body_top : y.top ≡ record { inverted = false; table = gate_table base 0 false k body }
        body_top = λ i. record { inverted = body_shows.inverted i; table = body_shows.table i }

        body_taken : Planned K ks (upto (length ks)) p a → Permuted (gather (λ q. inner base q.1) ds ++ numbered n y.new) (records* base body k)
        body_taken pl =
            subst₂ (λ ps g. Permuted (gather (λ q. inner base q.1) ds ++ ps) (inside base k g))
            (y.placing ∙ ap (λ m. numbered m y.new) start) f (plan_placed base k (ready_length r) pl y.runs)

        body_gated : Planned K ks (upto (length ks)) p a → Body K es a body → Gated p a
        body_gated pl b = record {
          body = body;
          new = y.new;
          ends = y.ends ∙ ap (λ x. record { stack = x ∷ []; placed = y.new }) body_top;
          runs = subst (λ g. Runs ds p [] (g ∷ [])) f y.runs;
          is = b;
          taken = body_taken pl;
          low = subst (λ x. Low base (n + length y.new) x.table) body_top y.low;
          earlier = subst (λ m. Early base (numbered m y.new)) start y.earlier;
        }

      -- THE RUN OF A GATE'S PLAN
      pub gated : {p : List Token} {a : Key} → 2 ≤ length ks → Planned K ks (upto (length ks)) p a → Gated p a
      gated two pl =
          let y = followed pl.denotes [] [] [] in
          let b = plan_body K r two pl y.runs in
          body_gated y b.0 (cc b.1) pl b.2
