-- A root that is being worked by pairs of bits, and several side by side.
use Rattle.std.specs.Prelude.{ℕ, ◌+◌, ◌*◌, ◌/◌, ◌%◌, ◌^◌, ◌≤◌, ◌<◌, ◌≡◌, List, get_or}
use Rattle.roots.specs.declared.Work.{Work}

-- while the last `pairs` pairs of n are not yet brought down: `root` is the root of the others, `rest` what is left of them
pub record Brought (n pairs root rest : ℕ) : Type 0 where
  pub all : root * root + rest ≡ n / 2 ^ (2 * pairs)
  pub least : rest ≤ 2 * root

-- a step: one pair more
pub record Stepped (pair root rest next left : ℕ) : Type 0 where
  pub all : next * next + left ≡ 4 * (root * root + rest) + pair
  pub least : left ≤ 2 * next

-- ---- side by side: how many, and each of them
abbrev pub side : ℕ
side = 8

-- numbers of so many pairs
abbrev pub EachBelow : List ℕ → ℕ → Type 0
EachBelow n pairs = (k : ℕ) → k < side → get_or n k 0 < 2 ^ (2 * pairs)

abbrev pub Narrow : Type 0
Narrow = Work ℕ

-- where there is no root
abbrev pub no_work : Narrow
no_work = record { root = 0; rest = 0 }

abbrev pub EachBrought : List ℕ → ℕ → List Narrow → Type 0
EachBrought n pairs works = (k : ℕ) → k < side → let w = get_or works k no_work in Brought (get_or n k 0) pairs w.root w.rest

-- roots for which half the bits will do
pub record Short (root rest : ℕ) : Type 0 where
  pub bits : root < 2 ^ 29
  pub least : rest ≤ 2 * root

abbrev pub EachShort : List Narrow → Type 0
EachShort works = (k : ℕ) → k < side → let w = get_or works k no_work in Short w.root w.rest

-- the pair of each number that has `pair` pairs behind it
abbrev pub EachStepped : List ℕ → ℕ → List Narrow → List Narrow → Type 0
EachStepped half pair works nexts =
    (k : ℕ) → k < side → let w = get_or works k no_work in let x = get_or nexts k no_work in
    Stepped (get_or half k 0 / 2 ^ (2 * pair) % 4) w.root w.rest x.root x.rest

-- 32 bits of each, from the bit `from` on
abbrev pub EachHalf : List ℕ → ℕ → List ℕ → Type 0
EachHalf n from halves = (k : ℕ) → k < side → get_or halves k 0 ≡ get_or n k 0 / 2 ^ from % 2 ^ 32
