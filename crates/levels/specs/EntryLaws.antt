-- Laws of entries: there is one for each property; those of a net and of a gate; and how they change with the bound, which is never
-- to more. From which bound on they do not change at all is in LineLaws.
use Rattle.std.specs.Prelude.{ℕ, ◌≤◌, ◌≡◌, Bool, cond, List, [], ◌∷◌, leb}
use Rattle.std.proofs.Common.{arith}
use Rattle.std.proofs.Math.Decide.{dec_lt}
use Rattle.std.proofs.Math.Logic.{by_cases}
use Rattle.lists.specs.Cases.{if_leb}
use Rattle.lists.specs.ListLaws.{every_head}
use Rattle.tree.specs.declared.Kind.{Kind}
use Rattle.tree.specs.Trusted.Tree.{Node, leaf, gate, Edges}
use Rattle.levels.specs.Gives.{fanins, Nets, Gives, net, drawn, AtMost, LeastEntry}
use Rattle.levels.specs.GivesLaws.{gives_higher, gives_above, gives_wide, gate_out}

-- ---- of any property

module _ {big : ℕ} where
  pub entry_one : {P : ℕ → Type 0} {a b : ℕ} → LeastEntry big P a → LeastEntry big P b → a ≡ b
  entry_one {P} {a} {b} x y = omega (arith, under x y, under y x)
    where
      under : {a b : ℕ} → LeastEntry big P a → LeastEntry big P b → a ≤ b
      under {a} {b} x y = by_cases (dec_lt b big) (λ l. x.low b (y.some l)) (λ l. omega (arith, x.most, y.most))

  pub entry_iff : {P Q : ℕ → Type 0} {a : ℕ} → ((c : ℕ) → P c → Q c) → ((c : ℕ) → Q c → P c) → LeastEntry big P a → LeastEntry big Q a
  entry_iff {a = a} f g x = record { some = λ l. f a (x.some l); low = λ c q. x.low c (g c q); most = x.most }

  -- a property of no number
  pub entry_none : {P : ℕ → Type 0} → ((c : ℕ) → P c → ⊥) → LeastEntry big P big
  entry_none f = record { some = λ l. absurd (omega arith); low = λ c p. absurd (f c p); most = omega arith }

module _ {K : ℕ} {lev : ℕ → ℕ} {big : ℕ} where
  -- ---- of a net and of a gate

  pub entry_net : (i : Bool) (n ℓ w : ℕ) → 1 ≤ w →
      LeastEntry big (AtMost (Gives K lev ((i, leaf n) ∷ []) ℓ) w) (cond (leb (lev n) ℓ) 0 big)
  entry_net i n ℓ w h =
      if_leb (LeastEntry big (AtMost (Gives K lev ((i, leaf n) ∷ []) ℓ) w)) (lev n) ℓ
      (λ l. record { some = λ b. (1, h, net l); low = λ c p. omega arith; most = omega arith })
      (λ l. entry_none (λ c p. omega (arith, every_head (every_head (gives_above p.2)))))

  pub entry_gate : {i : Bool} {k : Kind} {es : Edges} {ℓ w e : ℕ} → LeastEntry big (AtMost (Gives K lev (fanins es) ℓ) w) e →
      LeastEntry big (AtMost (Gives K lev ((i, gate k es) ∷ []) ℓ) w) e
  entry_gate = entry_iff (λ c p. (p.0, p.1, drawn p.2)) (λ c p. (p.0, p.1, gate_out p.2))

  pub entry_fanins : {i : Bool} {k : Kind} {es : Edges} {ℓ w e : ℕ} → LeastEntry big (AtMost (Gives K lev ((i, gate k es) ∷ []) ℓ) w) e →
      LeastEntry big (AtMost (Gives K lev (fanins es) ℓ) w) e
  entry_fanins {i} {k} = entry_iff (λ c p. (p.0, p.1, gate_out p.2)) (λ c p. (p.0, p.1, drawn {i = i} {k = k} p.2))

  -- no group gives no input
  pub entry_no_input : {zs : List (Bool × Node)} {ℓ : ℕ} → LeastEntry big (AtMost (Gives K lev zs ℓ) 0) big
  entry_no_input = entry_none (λ c p. omega (arith, p.1, gives_wide p.2))

  -- ---- by the bound

  pub entry_higher : {zs : List (Bool × Node)} {ℓ ℓ' w a b : ℕ} → ℓ ≤ ℓ' → LeastEntry big (AtMost (Gives K lev zs ℓ) w) a →
      LeastEntry big (AtMost (Gives K lev zs ℓ') w) b → b ≤ a
  entry_higher {ℓ' = ℓ'} {a = a} l x y =
      by_cases (dec_lt a big) (λ h. let p = x.some h in y.low a (p.0, p.1, gives_higher ℓ' p.2 l)) (λ h. omega (arith, y.most))

  -- below the level of a net that is read there is nothing
  pub entry_below : {zs : List (Bool × Node)} {ℓ w : ℕ} → ¬ (Nets (λ n. lev n ≤ ℓ) zs) → LeastEntry big (AtMost (Gives K lev zs ℓ) w) big
  entry_below f = entry_none (λ c p. f (gives_above p.2))
