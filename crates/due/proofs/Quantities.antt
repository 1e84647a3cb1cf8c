-- The line that is due, by its form and what is taken of its numbers. Assumes nothing.
use Prim.Native.Nat.{ℕ}
use mathlib.Core.Path.{◌≡◌, sym, subst}
use mathlib.Core.List.{List, [], ◌∷◌, ◌++◌}
use mathlib.Core.Option.{Option, none}
use mathlib.Core.Bool.{Bool, not, ◌&&◌}
use lib.Dec.{eqb}
use lib.IntN.{ℤ, pos}
use lib.ListN.{length, get_or}
use Rattle.limits.specs.declared.Number.{Number}
use Rattle.limits.specs.declared.Checked.{Checked}
use Rattle.text.specs.Bytes.{bytes}
use Rattle.limits.specs.Checked.{Measured}
use Rattle.sheet.specs.Quantities.{Field}
use Rattle.document.specs.Schema.{Line, Row, at}
use Rattle.document.specs.Reader.{read_line}
use Rattle.due.specs.Taking.{from, one, Taken}
use Rattle.due.proofs.Chain.{Chain, ◌&◌, done, taken}
use Rattle.sheet.specs.declared.Refusal.{Refusal}
use Rattle.sheet.specs.declared.Refusal.TheVariants.{Outside}
use Rattle.document.specs.Tests.{when}
use Rattle.due.specs.declared.Place.{Place}
use Rattle.due.specs.declared.Heard.{Heard}
use Rattle.due.specs.Place.{good, Ready, After, ranged, ruled}
use Rattle.due.specs.Form.{form_of, read_form, DueAfter, LineTaken}
use Rattle.due.proofs.Places.{after-left}
use Rattle.due.proofs.Lines.{line_after, good_test, ruled-after}

pub alone : {s : List ℕ} {p q q' : Place} {fault : ℕ} (l : Line) (v : List Number) (x : ℤ)
    → After s p (form_of l) q (λ row. from 0 (length l.fields) v ≡ row.numbers)
    → Chain 0 1 l.fields (from 0 (length l.fields) v) (x ∷ []) fault → q' ≡ ranged p.line q fault
    → After s p (read_line l (λ row. none)) q' (λ row. x ≡ get_or row.numbers 0 (pos 0))
alone {s} {p} {q} {fault = fault} l v x a c e =
    rw e (line_after s p q l v fault (λ zs. x ≡ get_or zs 0 (pos 0)) a (taken (λ (t : List ℤ). get_or t 0 (pos 0)) c))

-- The same of any line with this key and one field with these limits, whatever it is called.
pub heard : {s key : List ℕ} {p q' : Place} {d : Heard (List Number)} {a b x : ℤ} {fault : ℕ} (l : Line)
    → l.key ++ bytes "=" ≡ key → l.fields ≡ one a b → DueAfter s p key 1 d
    → Measured a b (get_or d.said 0 (record { 0 = pos 0 })).0 0 1 x fault → q' ≡ ranged p.line d.place fault
    → After s p (read_line l (λ row. none)) q' (λ row. x ≡ at row 0)
heard {s} {p = p} {q' = q'} {d = d} {a = a} {b = b} {x = x} l e f g m h =
    let P : Row → Type 0 = λ row. from 0 1 d.said ≡ row.numbers in
    let formed = subst (λ (k : List ℕ). After s p (read_form k 1) d.place P) (sym e) g.after in
    subst (λ (fs : List Field). After s p (read_line (record { key = l.key; fields = fs }) (λ row. none)) q' (λ row. x ≡ at row 0)) (sym f)
    (alone (record { key = l.key; fields = one a b }) d.said x formed (m & done) h)

-- Behind a line that was read from a place is a place from which is read on.
pub heard_ready : {s : List ℕ} {p q q' : Place} (key : List ℕ) (n fault : ℕ) {P : Row → Type 0} → Ready s p → After s p (read_form key n) q P
    → q' ≡ ranged p.line q fault → Ready s q'
heard_ready {s} {p = p} {q = q} key n fault r a h =
    rw h (record { short = r.short; fair = good_test p.line q (Outside fault) s (good q && not (eqb fault 0)) a.fair })

-- A LINE by what is taken of its numbers, and then by its rule.
module _ {T : Type 0} {s key : List ℕ} {p : Place} {n : ℕ} {Of : List Number → Checked T → Type 0} {r : Heard T} (l : Line) (Shown : T → List ℤ → Type 0)
    (e : l.key ++ bytes "=" ≡ key) (f : length l.fields ≡ n)
    (of : (v : List Number) (x : Checked T) → Of v x → Taken l.fields (from 0 (length l.fields) v) x.fault (Shown x.value)) where
  pub line-taken : LineTaken s p key n Of r → After s p (read_line l (λ row. none)) r.place (λ row. Shown r.said row.numbers)
  line-taken t =
      let v = t.form.said in
      let P : ℕ → Row → Type 0 = λ k row. from 0 k v ≡ row.numbers in
      let formed = subst (λ (k : List ℕ). After s p (read_form k n) t.form.place (P n)) (sym e) t.due.after in
      let counted = subst (λ (k : ℕ). After s p (read_form (l.key ++ bytes "=") k) t.form.place (P k)) (sym f) formed in
      rw (t.place, t.said) (line_after s p t.form.place l v t.took.fault (Shown t.took.value) counted (of v t.took t.taken))

-- a rule behind a line without one
pub then-ruled : {s : List ℕ} {p q q' : Place} (l : Line) (P : Row → Type 0) (rule : Row → Option Refusal) (broken : Bool) (why : Refusal)
    → After s p (read_line l (λ row. none)) q P → ((row : Row) → P row → rule row ≡ when broken why) → q' ≡ ruled p.line q broken why
    → After s p (read_line l rule) q' P
then-ruled {s} {p} {q} l P rule broken why a f e = rw e (after-left (ruled-after s p q l P (λ row. none) rule broken why f a))
