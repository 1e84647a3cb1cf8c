-- Numbers side by side: what holds at each place of an array that a closure makes place by place, of two arrays after a write to both, and of the roots
-- of an array; what is true of an array's numbers. Assumes nothing.
use Rattle.std.proofs.Common.{ℕ, zero, suc, ◌+◌, ◌^◌, ◌<◌, ◌≤◌, ◌≡◌, ◌≢◌, refl, List, [], ◌∷◌, length, map, get_or, set, arith}
use Rattle.std.specs.Array.{IsFromFnResultFrom, IsFromFnResult}
use native.Mathlib.Decide.{ℕ_discrete}
use denote.Param.Members.{Mut, Called}
use denote.Array.{each}
use denote.Plain.{UInt}
use denote.Shadow.{shadow}
use mir.Syntax.{w64}
use mir.Val.{Val}
use lib.Dec.{lit<}
use lib.ListN.{replicate, get_or-map}
use lib.Seq.{get_or-set_same, get_or-set_other}
use Rattle.roots.specs.Root.{root, root_in}

from : {F B : Type 0} (g : Mut F (ℕ × Unit {0}) B) (P : ℕ → B → Type 0) (f : F)
    → ((i : ℕ) (y : B) (f' : F) → Called g f (i, tt) y f' → P i y × (f' ≡ f))
    → (ys : List B) (d : B) (i n : ℕ) → IsFromFnResultFrom g f ys i n → (k : ℕ) → i ≤ k → k < i + n → P k (get_or ys k d)
from g P f step ys d i zero made k low high = absurd (omega arith)
from g P f step ys d i (suc n) made k low high =
    go (ℕ_discrete k i) (λ later. from g P f step ys d (i + 1) n (rw (step i made.1 made.0 made.3).1 at made.4) k later (omega arith))
  where
    go : Dec (k ≡ i) → (i + 1 ≤ k → P k (get_or ys k d)) → P k (get_or ys k d)
    go (yes e) later = rw (e, made.2.1 d) (step i made.1 made.0 made.3).0
    go (no e) later = later (omega arith)

-- a closure that changes nothing that it holds
pub from_fn-each : {F B : Type 0} {g : Mut F (ℕ × Unit {0}) B} {f : F} {ys : List B} {n : ℕ} → IsFromFnResult g f ys n
    → (P : ℕ → B → Type 0) → ((i : ℕ) (y : B) (f' : F) → Called g f (i, tt) y f' → P i y × (f' ≡ f))
    → (d : B) (k : ℕ) → k < n → P k (get_or ys k d)
from_fn-each {g = g} {f = f} {ys = ys} {n = n} made P step d k h = from g P f step ys d 0 n made.each k (omega arith) (omega arith)

-- the numbers of an array of u64 fit
pub each_fits : (xs : List ℕ) (us : List Val) → shadow (each ℕ (UInt w64).own_val xs us) → (k : ℕ) → get_or xs k 0 < 2 ^ 64
each_fits [] us p k = lit< tt
each_fits (x ∷ xs) [] p k = absurd p
each_fits (x ∷ xs) (u ∷ us) p zero = p.0.1
each_fits (x ∷ xs) (u ∷ us) p (suc k) = each_fits xs us p.1 k

-- two arrays, written at one place
pub set_both : {A B : Type 0} (P : ℕ → A → B → Type 0) (d : A) (e : B) (xs : List A) (ys : List B) (i : ℕ) (x : A) (y : B) → i < length xs → i < length ys →
    P i x y → (k : ℕ) → (k ≢ i → P k (get_or xs k d) (get_or ys k e)) → P k (get_or (set xs i x) k d) (get_or (set ys i y) k e)
set_both P d e xs ys i x y h g new k old = go (ℕ_discrete k i)
  where
    go : Dec (k ≡ i) → P k (get_or (set xs i x) k d) (get_or (set ys i y) k e)
    go (yes q) = rw (q, get_or-set_same xs i x d h, get_or-set_same ys i y e g) new
    go (no f) = rw (get_or-set_other xs i k x d f, get_or-set_other ys i k y e f) (old f)

-- one array
pub set-one : {A : Type 0} (P : ℕ → A → Type 0) (d : A) (xs : List A) (i : ℕ) (x : A) → i < length xs → P i x →
    (k : ℕ) → (k ≢ i → P k (get_or xs k d)) → P k (get_or (set xs i x) k d)
set-one P d xs i x h = set_both (λ k a b. P k a) d d xs xs i x x h h

-- the same at every place
pub same_at : {A : Type 0} (x : A) (n k : ℕ) → get_or (replicate n x) k x ≡ x
same_at x zero k = refl
same_at x (suc n) zero = refl
same_at x (suc n) (suc k) = same_at x n k

-- the roots of several numbers, each at its place
pub root-at : (n : List ℕ) (k : ℕ) → get_or (map root n) k 0 ≡ root (get_or n k 0)
unfolding root root_in
root-at n k = get_or-map root n k 0
