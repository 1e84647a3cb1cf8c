-- Lines written one behind the other: what is written, and what the keys and figures that are left have yet to write. Assumes nothing.
use Prim.Native.Nat.{ℕ, ◌+◌, ◌*◌, ◌≤◌}
use mathlib.Core.Path.{◌≡◌, refl, sym, ap, ◌∙◌, subst}
use mathlib.Core.List.{List, [], ◌∷◌, ◌++◌, append_assoc, append-nil}
use native.Mathlib.Omega.{arith}
use lib.ListN.{length, length-append}
use lib.IntN.{ℤ}
use Rattle.std.proofs.Common.{Bor}
use Rattle.text.specs.Decimal.{line}
use Rattle.pen.specs.Writing.{Written}
use Rattle.pen.proofs.Writing.{begun, next}
use Rattle.formulas.specs.Report.{keys, lines_text}
use Rattle.document.specs.Rules.{Every}
use Rattle.formulas.specs.Items.{shuttle}
use Rattle.report.specs.Lengths.{key_most, line_most, report_most}
use Rattle.report.proofs.Keys.{texts, keys-short, keys-count}
use Rattle.report.proofs.Lines.{no_lines}

pub record Going (all old out : List ℕ) (at : ℕ) (ks : List (Bor (List ℕ))) (zs : List ℤ) : Type 0 where
  pub done : List ℕ
  pub split : done ++ lines_text (texts ks) zs ≡ all
  pub written : Written 0 done old out at

pub going-first : (old : List ℕ) (ks : List (Bor (List ℕ))) (keys : List (List ℕ)) (zs : List ℤ) → texts ks ≡ keys → Going (lines_text keys zs) old old 0 ks zs
going-first old ks keys zs e = record { done = []; split = ap (λ (k : List (List ℕ)). lines_text k zs) e; written = begun 0 old }

module _ {all old out : List ℕ} {at : ℕ} {ks ks' : List (Bor (List ℕ))} {k : Bor (List ℕ)} {zs zs' : List ℤ} {z : ℤ}
    (g : Going all old out at ks zs) (e : ks ≡ k ∷ ks') (f : zs ≡ z ∷ zs') where
  parts : (g.done ++ line k.now z) ++ lines_text (texts ks') zs' ≡ all
  unfolding lines_text
  parts = rw append_assoc (rw (e, f) at g.split)

  pub going-room : length all ≤ length old → length out ≡ length old → at + length (line k.now z) ≤ length out
  going-room h l =
      let a = ap length parts ∙ refl in
      omega (arith, g.written.ends, a, length-append (g.done ++ line k.now z) (lines_text (texts ks') zs'), length-append g.done (line k.now z))

  pub going-next : {out' : List ℕ} {at' : ℕ} → Written at (line k.now z) out out' at' → Going all old out' at' ks' zs'
  going-next w = record { done = g.done ++ line k.now z; split = parts; written = next g.written w }

none : {X : Type 0} (xs : List X) → length xs ≡ 0 → xs ≡ []
none [] e = refl
none (x ∷ xs) e = absurd (omega arith)

module _ {all old out : List ℕ} {at : ℕ} {ks : List (Bor (List ℕ))} {zs : List ℤ} (g : Going all old out at ks zs) where
  pub no-keys : length ks ≡ 0 → Written 0 all old out at
  unfolding lines_text
  no-keys e = subst (λ (t : List ℕ). Written 0 t old out at) (sym (append-nil g.done) ∙ (rw (none ks e) at g.split)) g.written

  pub no-figures : length zs ≡ 0 → Written 0 all old out at
  unfolding lines_text
  no-figures e =
      let s : g.done ++ lines_text (texts ks) [] ≡ all = subst (λ (y : List ℤ). g.done ++ lines_text (texts ks) y ≡ all) (none zs e) g.split in
      subst (λ (t : List ℕ). Written 0 t old out at) (sym (append-nil g.done) ∙ ap (λ (t : List ℕ). g.done ++ t) (sym (no_lines (texts ks))) ∙ s) g.written

-- ---- the same of the length alone
pub record Counted (total n : ℕ) (ks : List (Bor (List ℕ))) (zs : List ℤ) : Type 0 where
  pub sum : n + length (lines_text (texts ks) zs) ≡ total
  pub short : Every (λ k. length k ≤ key_most) (texts ks)
  pub most : n + line_most * length (texts ks) ≤ report_most

pub counted-first : (ks : List (Bor (List ℕ))) (zs : List ℤ) → texts ks ≡ keys shuttle → Counted (length (lines_text (keys shuttle) zs)) 0 ks zs
counted-first ks zs e = record {
  sum = omega (arith, ap (λ (k : List (List ℕ)). length (lines_text k zs)) e);
  short = subst (λ (k : List (List ℕ)). Every (λ k. length k ≤ key_most) k) (sym e) keys-short;
  most = omega (arith, ap length e, keys-count);
}

module _ {total n : ℕ} {ks ks' : List (Bor (List ℕ))} {k : Bor (List ℕ)} {zs zs' : List ℤ} {z : ℤ}
    (g : Counted total n ks zs) (e : ks ≡ k ∷ ks') (f : zs ≡ z ∷ zs') where
  shorts : (length k.now ≤ key_most) × Every (λ k. length k ≤ key_most) (texts ks')
  shorts = subst (λ (y : List (Bor (List ℕ))). Every (λ k. length k ≤ key_most) (texts y)) e g.short

  pub key-short : length k.now ≤ key_most
  key-short = shorts.0

  pub counted-next : (r : ℕ) → r ≡ length (line k.now z) → r ≤ line_most → Counted total (n + r) ks' zs'
  unfolding lines_text
  counted-next r h l =
      let s : n + length (line k.now z ++ lines_text (texts ks') zs') ≡ total = rw (e, f) at g.sum in
      let m = ap (λ (y : List (Bor (List ℕ))). length (texts y)) e in
      record {
        sum = omega (arith, s, h, length-append (line k.now z) (lines_text (texts ks') zs'));
        short = shorts.1;
        most = omega (arith, g.most, m, l);
      }

module _ {total n : ℕ} {ks : List (Bor (List ℕ))} {zs : List ℤ} (g : Counted total n ks zs) where
  pub counted-keys : length ks ≡ 0 → n ≡ total
  unfolding lines_text
  counted-keys e = let s : n + 0 ≡ total = rw (none ks e) at g.sum in omega (arith, s)

  pub counted-figures : length zs ≡ 0 → n ≡ total
  counted-figures e =
      let s : n + length (lines_text (texts ks) []) ≡ total = subst (λ (y : List ℤ). n + length (lines_text (texts ks) y) ≡ total) (none zs e) g.sum in
      omega (arith, s, ap length (no_lines (texts ks)))
