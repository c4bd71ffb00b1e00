-- Reading a plan back: what is asked of a gate can be read back from its arrays, and what is then asked of its fanins can be asked of them.
use Rattle.std.specs.Prelude.{ℕ, zero, suc, ◌+◌, ◌-◌, ◌*◌, ◌^◌, ◌≤◌, ◌<◌, ◌≡◌, refl, ◌⊎◌, ◌≢◌, Bool, List, [], ◌∷◌, length, get_or}
use Rattle.std.proofs.Common.{arith, ap, sym, ◌∙◌, inr, ⊎_elim, pow_pos, pow_mono}
use Rattle.std.proofs.Math.Decide.{dec_lt}
use Rattle.std.proofs.Math.Logic.{by_cases}
use Rattle.std.proofs.Math.Pow.{pow-lt}
use Rattle.lists.specs.ListLaws.{every_head}
use Rattle.tree.specs.declared.Kind.{Kind}
use Rattle.tree.specs.Trusted.Tree.{Node, leaf, gate, Edges}
use Rattle.plan.specs.MaskLaws.{top_bit, select_all}
use Rattle.levels.specs.Gives.{fanins, Gives, drawn, placed, AtMost, LeastEntry}
use Rattle.levels.specs.GivesLaws.{gives_higher, gives_narrow, gives_above}
use Rattle.levels.specs.Groups.{Groups, LevelRows}
use Rattle.levels.specs.GroupLaws.{groups_gives, groups_higher}
use Rattle.levels.specs.EntryLaws.{entry_one, entry_fanins, entry_higher}
use Rattle.levels.proofs.LineLaws.{row_whole}
use Rattle.levels.specs.Demands.{demand}
use Rattle.level_arrays.specs.Arrays.{big, entry_at, own_above, fan_row, Ranged, Falling, ReadsBack}
use Rattle.level_arrays.specs.ArrayLaws.{searched_rows}
use Rattle.level_arrays.specs.Askable.{Askable, FanLines}
use Rattle.level_arrays.specs.GateLaws.{fan_entries}
use Rattle.level_arrays.specs.declared.Fans.{Fans}

-- a higher bound allows no less
groups_entry_higher : {K from : ℕ} {lev : ℕ → ℕ} {zs : List (Bool × Node)} {ℓ w c d : ℕ} → LeastEntry big (AtMost (Groups K lev from zs ℓ) w) c →
    LeastEntry big (AtMost (Groups K lev from zs (suc ℓ)) w) d → d ≤ c
groups_entry_higher {ℓ = ℓ} {c = c} x y =
    by_cases (dec_lt c big) (λ l. let p = x.some l in y.low c (p.0, p.1, groups_higher (suc ℓ) p.2 (omega arith))) (λ l. omega (arith, y.most))

module _ (K : ℕ) (lev : ℕ → ℕ) (two : 2 ≤ K) (zs : List (Bool × Node)) (z : Bool × Node) (store : List ℕ) (f : Fans)
    (fans : FanLines K lev zs z store f) {from top : ℕ} {a : List ℕ} (x : Ranged K (length zs) from top (fan_row store f) a) where
  array_rows : (i : ℕ) → i < top → LevelRows K lev from big zs (from + i) (entry_at a (suc i * 8192)) (2 ^ length zs)
  array_rows = searched_rows K lev zs z (omega arith) x.searched (λ i l. fan_entries K lev zs z store f fans (from + i))

  -- a single fanin has its row of the array's bound
  pub slot_entry : (i b h w : ℕ) → i ≤ top → b + 1 ≡ from + i → h < length zs → w ≤ K → entry_at a (i * 8192) (2 ^ h) w ≡ fan_row store f b h w
  slot_entry zero b h w l e m k = x.zeroth h w b m k (omega arith)
  slot_entry (suc i) b h w l e m k =
      let d : b ≡ from + i = omega arith in
      rw d ((x.searched.next i l).one h w m (pow-lt m) k)

  -- ---- entries for K inputs fall

  single_falls : (h : ℕ) → h < length zs → 0 < top → entry_at a (1 * 8192) (2 ^ h) K ≤ entry_at a 0 (2 ^ h) K
  single_falls h l t =
      let y = slot_entry 1 from h K (omega arith) (omega arith) l (omega arith) in
      let m = fan_entries K lev zs z store f fans from h K l (omega arith) in
      by_cases (dec_lt 0 from)
      (λ p.
      let q = x.zeroth h K (from - 1) l (omega arith) (omega arith) in
      omega (arith, y, q, entry_higher {ℓ = from - 1} {ℓ' = from} (omega arith) (fan_entries K lev zs z store f fans (from - 1) h K l (omega arith)) m))
      (λ p. omega (arith, y, m.most, x.nothing h K l (omega arith) (omega arith)))

  pub arrays_fall : Falling K (length zs) top a
  arrays_fall zero s t p m =
      let (h, r, l, b, e) = top_bit (length zs) s p m in
      by_cases (dec_lt 0 r)
      (λ q. rw e (omega (arith, x.searched.first h r l q b, (array_rows 0 t (2 ^ h + r) (omega arith) (omega arith) K (omega arith)).most)))
      (λ q. let d : s ≡ 2 ^ h = omega arith in rw d (single_falls h l t))
  arrays_fall (suc i) s t p m =
      let d : from + suc i ≡ suc (from + i) = omega arith in
      groups_entry_higher (array_rows i (omega arith) s p m K (omega arith)) (rw d at (array_rows (suc i) t s p m K (omega arith)))

  -- ---- what is asked of the gate

  module _ (many : 2 ≤ length zs) (t : ℕ) (last : top ≡ suc t) (enough : (from ≡ 0) ⊎ (from + length zs ≤ suc (from + t)))
      {w e : ℕ} (q : Askable K lev zs (demand (from + t) w e)) where
    all_some : (0 < 2 ^ length zs - 1) × (2 ^ length zs - 1 < 2 ^ length zs)
    all_some = (omega (arith, pow_mono many), omega (arith, pow_pos (length zs)))

    pub whole_entry : entry_at a (suc t * 8192) (2 ^ length zs - 1) w ≡ e
    whole_entry =
        entry_one (row_whole zs enough (array_rows t (omega arith) (2 ^ length zs - 1) all_some.0 all_some.1) q.inputs.1) q.entry

    all_bits : 2 ^ (length zs - 1) + (2 ^ (length zs - 1) - 1) ≡ 2 ^ length zs - 1
    all_bits =
        let m : length zs ≡ suc (length zs - 1) = omega arith in
        let d : 2 ^ length zs ≡ 2 ^ suc (length zs - 1) = ap (λ n. 2 ^ n) m in
        omega (arith, d, pow_pos (length zs - 1))

    unlifted : (i : ℕ) → i ≡ t → e ≢ own_above K a (i * 8192) (2 ^ length zs - 1)
    unlifted zero j d =
        let m : 2 ^ 1 ≤ 2 ^ (length zs - 1) = pow_mono {i = 1} (omega arith) in
        let n = x.searched.first (length zs - 1) (2 ^ (length zs - 1) - 1) (omega arith) (omega (arith, m)) (omega (arith, m)) in
        omega (arith, q.some, ap (λ s. entry_at a 0 s K) all_bits, n)
    unlifted (suc i) j d =
        let y = array_rows i (omega arith) (2 ^ length zs - 1) all_some.0 all_some.1 K (omega arith) in
        let (v, u, g) = y.some (omega (arith, q.some)) in
        omega (arith, q.some, q.held (from + i) v _ (omega arith) (rw (select_all zs (length zs) refl) at (groups_gives g)))

    pub asked_kept : ReadsBack K a top (2 ^ length zs - 1) w
    asked_kept = rw last (record {
      some = omega (arith, whole_entry, q.some);
      inputs = q.inputs;
      held = inr (t, refl, λ d. unlifted t refl (sym whole_entry ∙ d));
    })

  -- ---- what is then asked of a fanin

  module _ (h i b w : ℕ) (l : h < length zs) (s : i ≤ top) (d : b + 1 ≡ from + i) (q : ReadsBack K a i (2 ^ h) w) where
    fan_least : LeastEntry big (AtMost (Gives K lev (get_or zs h z ∷ []) b) w) (entry_at a (i * 8192) (2 ^ h) w)
    fan_least = rw (slot_entry i b h w s d l q.inputs.1) (fan_entries K lev zs z store f fans b h w l q.inputs.1)

    held_before : (p v c j : ℕ) → suc p ≡ b → suc j ≡ i → entry_at a (i * 8192) (2 ^ h) w ≢ own_above K a (j * 8192) (2 ^ h) → Gives K lev (get_or zs h z ∷ []) p v c →
        entry_at a (i * 8192) (2 ^ h) w ≤ c
    held_before p v c j e m n g =
        let o = slot_entry j p h K (omega arith) (omega arith) l (omega arith) in
        let y = fan_entries K lev zs z store f fans p h K l (omega arith) in
        let u = y.low c (v, gives_narrow (omega arith) g, g) in
        by_cases (dec_lt (fan_row store f p h K) big)
        (λ k.
        let r = y.some k in
        let w' = fan_least.low (suc (fan_row store f p h K)) (1, q.inputs.0, rw (sym e) (placed r.2)) in
        omega (arith, o, n))
        (λ k. omega (arith, q.some))

    pub fan_askable : Askable K lev (get_or zs h z ∷ []) (demand b w (entry_at a (i * 8192) (2 ^ h) w))
    fan_askable = record {
      entry = fan_least;
      some = q.some;
      inputs = q.inputs;
      held = λ p v c e g.
          ⊎_elim (λ m. fan_least.low c (v, omega (arith, gives_narrow {K = K} (omega arith) g), gives_higher b g (omega arith)))
          (λ m. held_before p v c m.0 e m.1 m.2 g) q.held;
    }

-- of a net, and of a gate
pub net_askable : {K : ℕ} {lev : ℕ → ℕ} {i : Bool} {n b w e : ℕ} → Askable K lev ((i, leaf n) ∷ []) (demand b w e) → (lev n ≤ b) × (1 ≤ w)
net_askable q = let (v, u, g) = q.entry.some q.some in (every_head (every_head (gives_above g)), q.inputs.0)

pub gate_askable : {K : ℕ} {lev : ℕ → ℕ} {i : Bool} {k : Kind} {es : Edges} {b w e : ℕ} → Askable K lev ((i, gate k es) ∷ []) (demand b w e) →
    Askable K lev (fanins es) (demand b w e)
gate_askable {i = i} {k = k} q = record {
  entry = entry_fanins {i = i} {k = k} q.entry;
  some = q.some;
  inputs = q.inputs;
  held = λ p v c e g. q.held p v c e (drawn g);
}
