-- Where a text is turned down, the number is 1 or 4 to 13, and the place is a line of the longest sheet or the one after it.
use Rattle.std.specs.Prelude.{ℕ, zero, suc, ◌+◌, ◌-◌, ◌≤◌, ◌≡◌, ◌≢◌, Bool, true, false, List, [], ◌∷◌}
use Rattle.std.proofs.Common.{arith, subst}
use Rattle.std.proofs.Math.Option.{Option, none, some}
use Rattle.lists.specs.Trusted.Lists.{from}
use Rattle.lists.specs.Trusted.Checked.{Checked, passed, refused, ◌>>=◌, require, given}
use Rattle.lists.specs.CheckedLaws.{Meets, on, off, meets_any}
use Rattle.decimal.specs.Trusted.Number.{Number}
use Rattle.sheet.specs.Trusted.Limits.{most_gates}
use Rattle.sheet.specs.Trusted.Line.{fields}
use Rattle.sheet.specs.declared.Source.{Source}
use Rattle.sheet.specs.declared.Source.TheVariants.{Net as net, Gate as gate}
use Rattle.sheet.specs.Trusted.Sheet.{DrawnSheet}
use Rattle.sheet.specs.Trusted.Read.{Seen, nothing, head_of, read_source, read_fanin, read_fanins, gate_head_of, read_gate, read_left, read_unread, read_sheet}
use Rattle.sheet.specs.ReadLaws.{head_meets}

pub record RefusalTold (number place : ℕ) : Type 0 where
  pub known : (1 ≤ number) × (number ≤ 13) × (number ≢ 2) × (number ≢ 3)
  pub at_line : (1 ≤ place) × (place ≤ most_gates + 2)

data Tells {A : Type 0} : Checked A → Type 0 where
  went : {a : A} → Tells (passed a)
  told : {number place : ℕ} → RefusalTold number place → Tells (refused number place)

tells_bind : {A B : Type 0} {Q : A → Type 0} (m : Checked A) (f : A → Checked B) → Tells m → Meets Q m → ((a : A) → Q a → Tells (f a)) → Tells (m >>= f)
unfolding ◌>>=◌
tells_bind m f (went {a = a}) (on q) h = h a q
tells_bind m f (told t) off h = told t

tells_require : {B : Type 0} (b : Bool) (number place : ℕ) (f : Unit {0} → Checked B) → RefusalTold number place → Tells (f tt) →
    Tells (require b number place >>= f)
unfolding ◌>>=◌ require
tells_require true number place f t h = h
tells_require false number place f t h = told t

tells_given : {A B : Type 0} (o : Option A) (number place : ℕ) (f : A → Checked B) → RefusalTold number place → ((a : A) → Tells (f a)) →
    Tells (given o number place >>= f)
unfolding ◌>>=◌ given
tells_given (some a) number place f t h = h a
tells_given none number place f t h = told t

head_tells : (bytes : List ℕ) → Tells (head_of (fields bytes))
head_tells bytes =
    tells_given _ _ _ _ (omega arith) (λ xs. tells_given _ _ _ _ (omega arith) (λ x.
    tells_require _ _ _ _ (omega arith) (tells_require _ _ _ _ (omega arith) (tells_require _ _ _ _ (omega arith) went))))

source_tells : (out g : ℕ) (seen : Seen) (s : Source) → g ≤ most_gates → Tells (read_source out (suc g) seen s)
source_tells out g seen (net n) l = tells_require _ _ _ _ (omega arith) (tells_require _ _ _ _ (omega arith) (tells_require _ _ _ _ (omega arith) went))
source_tells out g seen (gate j) l = tells_require _ _ _ _ (omega arith) went

fanin_tells : (out g : ℕ) (seen : Seen) (n : ℕ) → g ≤ most_gates → Tells (read_fanin out g seen n)
fanin_tells out g seen n l =
    tells_given _ _ _ _ (omega arith) (λ s. tells_bind _ _ (source_tells out g seen s l) (meets_any _) (λ seen₁ u. went))

fanins_tell : (out g : ℕ) (seen : Seen) (xs : List Number) → g ≤ most_gates → Tells (read_fanins out g seen xs)
fanins_tell out g seen [] l = went
fanins_tell out g seen (x ∷ xs) l =
    tells_bind _ _ (fanin_tells out g seen x.magnitude l) (meets_any _) (λ s u.
    tells_bind _ _ (fanins_tell out g s.1 xs l) (meets_any _) (λ r v. went))

gate_head_tells : (g : ℕ) (fs : Option (List Number)) → g ≤ most_gates → Tells (gate_head_of g fs)
gate_head_tells g fs l =
    tells_given _ _ _ _ (omega arith) (λ xs. tells_given _ _ _ _ (omega arith) (λ x. tells_given _ _ _ _ (omega arith) (λ k.
    tells_require _ _ _ _ (omega arith) (tells_require _ _ _ _ (omega arith) went))))

gate_tells : (out g : ℕ) (seen : Seen) (bytes : List ℕ) → g ≤ most_gates → Tells (read_gate out g seen bytes)
gate_tells out g seen bytes l =
    tells_bind _ _ (gate_head_tells g (fields bytes) l) (meets_any _) (λ x u.
    tells_bind _ _ (fanins_tell out g seen x.1 l) (meets_any _) (λ r v. went))

left_tells : (out left g : ℕ) (seen : Seen) (text : List ℕ) → left + g ≤ most_gates + 1 → Tells (read_left out left g seen text)
left_tells out zero g seen text l = went
left_tells out (suc left) g seen text l =
    tells_given _ _ _ _ (omega arith) (λ p.
    tells_bind _ _ (gate_tells out g seen p.0 (omega arith)) (meets_any _) (λ q u.
    tells_bind _ _ (left_tells out left (suc g) q.1 p.1 (omega arith)) (meets_any _) (λ r v. went)))

unread_tells : (n g : ℕ) (read : List ℕ) → n + g ≤ most_gates + 1 → Tells (read_unread (from g n) read)
unread_tells zero g read l = went
unread_tells (suc n) g read l = tells_require _ _ _ _ (omega arith) (unread_tells n (suc g) read (omega arith))

all_tells : (text : List ℕ) → Tells (read_sheet text)
all_tells text =
    tells_given _ _ _ _ (omega arith) (λ p.
    tells_bind _ _ (head_tells p.0) (head_meets p.0) (λ h a.
    tells_bind _ _ (left_tells h.out h.count 1 nothing p.1 (omega arith)) (meets_any _) (λ r u.
    tells_require _ _ _ _ (omega arith)
    (tells_bind _ _ (unread_tells (h.count - 1) 1 r.1.gates (omega arith)) (meets_any _) (λ v w. went)))))

pub refused_told : (text : List ℕ) (number place : ℕ) → read_sheet text ≡ refused number place → RefusalTold number place
refused_told text number place e = of (read_sheet text) (all_tells text) e
  where
    of : (m : Checked DrawnSheet) → Tells m → m ≡ refused number place → RefusalTold number place
    of m went e = let z : ◌≡◌ {A = ℕ} 0 1 = cc in absurd (omega arith)
    of m (told {number = n} {place = p} t) e =
        let q : n ≡ number = cc in
        let r : p ≡ place = cc in
        subst (λ k. RefusalTold k place) q (subst (λ k. RefusalTold n k) r t)
