-- Laws of the page calls under a plan: what a call has to show to end as its definition says.
use mathlib.Core.Path.{◌≡◌, sym, ap, ap₂, ◌∙◌}
use mathlib.Core.Bool.{false}
use mathlib.Core.List.{List, ◌++◌}
use Prim.Native.Nat.{ℕ, ◌+◌, ◌-◌, ◌*◌, ◌/◌, ◌%◌, ◌<◌}
use native.Mathlib.Omega.{arith}
use native.Mathlib.Decide.{dec_lt}
use native.Mathlib.Nat.{zero-add}
use lib.ListN.{length, get_or, length-append, get_or-append}
use lib.Seq.{get_or-append-add}
use borrow.Author.Tests.{eq-eqb, ne_eqb}
use Rattle.bits.specs.Bits.{bit_at, bit_of, run, Bytes}
use Rattle.bits.proofs.Runs.{run_at}
use Rattle.bits.proofs.Pages.{bytes-bytes, bytes-bit, bytes-ext}
use Rattle.layout_plan.specs.declared.Plan.{Plan}
use Rattle.layout_plan.specs.Plan.{payload, Valid}
use Rattle.code.specs.Word.{Word}
use Rattle.code.proofs.Outcome.{gives-sound}
use Rattle.page_theory.specs.Page.{message, page_of}
use Rattle.page_theory.specs.Reading.{GivesAt, RefusedAt, Lowest, Reading, reading, done, refused, counts}
use Rattle.page_theory.specs.Damage.{Payload}
use Rattle.page_theory.specs.Demands.{of-given}
use Rattle.page_theory.specs.Calls.{write_ended, write_reply, write_in}
use Rattle.page_theory.specs.Calls.{look_ended, look_reply, look_by, look_in}
use Rattle.page_theory.specs.Calls.{take_ended, take_reply, bytes_at, take_by, take_in}
use Rattle.page_theory.proofs.Reading.{gives-reading, lowest-refused, sound-reading, reports-list}

-- bits of metadata followed by data

pub bit_of-first : (m d : List ℕ) (p : ℕ) → p < 8 * length m → bit_of (m ++ d) p ≡ bit_of m p
unfolding bit_of bit_at
bit_of-first m d p h = let l : p / 8 < length m = omega arith in rw (get_or-append m d 0 (p / 8) l)

pub bit_of-second : (m d : List ℕ) (p : ℕ) → bit_of (m ++ d) (8 * length m + p) ≡ bit_of d p
unfolding bit_of bit_at
bit_of-second m d p =
    let i : (8 * length m + p) / 8 ≡ length m + p / 8 = omega arith in
    let j : (8 * length m + p) % 8 ≡ p % 8 = omega arith in
    rw (i, j, get_or-append-add m d (p / 8) 0)

pub bytes-append : {k n : ℕ} {m d : List ℕ} → Bytes k m → Bytes n d → Bytes (k + n) (m ++ d)
bytes-append {k} {n} {m} {d} a b = record {
  count = length-append m d ∙ ap₂ ◌+◌ a.count b.count;
  small = λ i. elim (dec_lt i (length m)) [
    | yes h ↦ rw (get_or-append m d 0 i h) (a.small i)
    | no h ↦ (let e : i ≡ length m + (i - length m) = omega arith in rw (e, get_or-append-add m d (i - length m) 0) (b.small (i - length m)))
  ];
}

-- bytes that a word gives

pub bytes_at-bytes : (w : Word) (s n : ℕ) → Bytes n (bytes_at w s n)
unfolding bytes_at
bytes_at-bytes w s n = bytes-bytes _ n

pub bytes_at-bit : (w : Word) (s n p : ℕ) → p < 8 * n → bit_of (bytes_at w s n) p ≡ get_or w (s + p) false
unfolding bytes_at
bytes_at-bit w s n p h = bytes-bit _ n p h

pub bytes_at-ext : (w : Word) (s n : ℕ) (l : List ℕ) → Bytes n l → ((p : ℕ) → p < 8 * n → bit_of l p ≡ get_or w (s + p) false)
    → bytes_at w s n ≡ l
unfolding bytes_at
bytes_at-ext w s n l b h = bytes-ext _ n l b h

-- the bits of the two parts of a word are its bits
pub bytes_at-join : (w : Word) (k n p : ℕ) → p < 8 * (k + n) → bit_of (bytes_at w 0 k ++ bytes_at w (8 * k) n) p ≡ get_or w p false
bytes_at-join w k n p h = let c = (bytes_at-bytes w 0 k).count in elim (dec_lt p (8 * k)) [
  | yes l ↦ bit_of-first (bytes_at w 0 k) (bytes_at w (8 * k) n) p (omega arith) ∙ bytes_at-bit w 0 k p l ∙ rw (zero-add p)
  | no l ↦ (let e : p ≡ 8 * length (bytes_at w 0 k) + (p - 8 * k) = omega arith in let f : 8 * k + (p - 8 * k) ≡ p = omega arith in
      ap (bit_of (bytes_at w 0 k ++ bytes_at w (8 * k) n)) e ∙ bit_of-second (bytes_at w 0 k) (bytes_at w (8 * k) n) (p - 8 * k)
      ∙ bytes_at-bit w (8 * k) n (p - 8 * k) (omega arith) ∙ ap (λ i. get_or w i false) f)
]

-- Reply and block of a look and of a take, by what the page turns out to be.
pub data Replied : Reading → ℕ → ℕ → Type 0 where
  whole : (w : Word) → Replied (done w) 0 0
  named : (b : ℕ) → Replied (refused b) 9 b

pub look-replied : (r : Reading) (c : List ℕ) → Replied r (look_by r c).reply (look_by r c).block
unfolding look_by
look-replied (done w) c = whole w
look-replied (refused b) c = named b

pub take-replied : (q : Plan) (r : Reading) (m d : List ℕ) → Replied r (take_by q r m d).reply (take_by q r m d).block
unfolding take_by
take-replied q (done w) m d = whole w
take-replied q (refused b) m d = named b

module _ (q : Plan) where
  -- Writing.

  pub write_reply-right : (m d page : List ℕ) → length page ≡ q.size → length m ≡ q.metadata → length d ≡ q.«data»
      → write_reply q (length m) (length d) (length page) ≡ 0
  unfolding write_reply
  write_reply-right m d page a b c = rw (eq-eqb (length page) q.size a, eq-eqb (length m) q.metadata b, eq-eqb (length d) q.«data» c)

  pub write-right : (m d page : List ℕ) → length page ≡ q.size → Payload q m d
      → write_in q m d page ≡ write_ended 0 0 (page_of q page (m ++ d))
  unfolding write_in
  write-right m d page a h = rw (write_reply-right m d page a h.metadata.count h.«data».count)

  -- Looking.

  pub look_reply-right : (page lent : List ℕ) → length page ≡ q.size → length lent ≡ q.blocks → look_reply q (length page) (length lent) ≡ 0
  unfolding look_reply
  look_reply-right page lent a b = rw (eq-eqb (length page) q.size a, eq-eqb (length lent) q.blocks b)

  pub look-right : (page lent : List ℕ) → length page ≡ q.size → length lent ≡ q.blocks → look_in q page lent ≡ look_by (reading q page) (counts q page)
  unfolding look_in
  look-right page lent a b = rw (look_reply-right page lent a b)

  -- wrong lengths leave what was lent
  pub look-wrong : (page lent : List ℕ) → (look_reply q (length page) (length lent) ≡ 0 → ⊥)
      → look_in q page lent ≡ look_ended (look_reply q (length page) (length lent)) 0 lent
  unfolding look_in
  look-wrong page lent h = rw (ne_eqb (look_reply q (length page) (length lent)) 0 h)

  -- One who looks and finds no block ruined has looked at the whole page.
  pub look-sound : (page lent : List ℕ) → length page ≡ q.size → length lent ≡ q.blocks
      → ((b : ℕ) → b < q.blocks → RefusedAt q page b → ⊥) → look_in q page lent ≡ look_ended 0 0 (counts q page)
  unfolding look_by reading
  look-sound page lent a b h = let s = sound-reading q page h in look-right page lent a b ∙ rw s.same

  -- One who shows of each block a count that it gives has looked at the whole page.
  pub look-gives : Valid q → (page c : List ℕ) (m : ℕ → Word) → length page ≡ q.size → length c ≡ q.blocks
      → ((b : ℕ) → b < q.blocks → GivesAt q page b (m b) (get_or c b 0))
      → (lent : List ℕ) → length lent ≡ q.blocks → look_in q page lent ≡ look_ended 0 0 c
  look-gives v page c m a n g lent l =
      look-sound page lent a l (λ b i. gives-sound _ _ _ _ _ _ (g b i))
      ∙ ap (look_ended 0 0) (reports-list q v page c n (λ b i. of-given (m b) (g b i)))

  -- One who shows the lowest ruined block has refused the page.
  pub look-refuses : (page lent : List ℕ) (b : ℕ) → length page ≡ q.size → length lent ≡ q.blocks → Lowest q page b
      → look_in q page lent ≡ look_ended 9 b (counts q page)
  unfolding look_by
  look-refuses page lent b a l h = look-right page lent a l ∙ rw (lowest-refused q page b h)

  -- Taking.

  pub take_reply-right : (page m d : List ℕ) → length page ≡ q.size → length m ≡ q.metadata → length d ≡ q.«data»
      → take_reply q (length page) (length m) (length d) ≡ 0
  unfolding take_reply
  take_reply-right page m d a b c = rw (eq-eqb (length page) q.size a, eq-eqb (length m) q.metadata b, eq-eqb (length d) q.«data» c)

  pub take-right : (page m d : List ℕ) → length page ≡ q.size → length m ≡ q.metadata → length d ≡ q.«data»
      → take_in q page m d ≡ take_by q (reading q page) m d
  unfolding take_in
  take-right page m d a b c = rw (take_reply-right page m d a b c)

  -- wrong lengths leave what was lent
  pub take-wrong : (page m d : List ℕ) → (take_reply q (length page) (length m) (length d) ≡ 0 → ⊥)
      → take_in q page m d ≡ take_ended (take_reply q (length page) (length m) (length d)) 0 m d
  unfolding take_in
  take-wrong page m d h = rw (ne_eqb (take_reply q (length page) (length m) (length d)) 0 h)

  pub bytes_at-metadata : (m d : List ℕ) → Payload q m d → bytes_at (run (bit_of (m ++ d)) 0 (8 * payload q)) 0 q.metadata ≡ m
  unfolding payload
  bytes_at-metadata m d h = let l = h.metadata.count in bytes_at-ext _ 0 q.metadata m h.metadata (λ p k.
      sym (rw (zero-add p) (run_at (bit_of (m ++ d)) 0 (8 * (q.metadata + q.«data»)) p false (omega arith)
      ∙ rw (zero-add p) (bit_of-first m d p (omega arith)))))

  pub bytes_at-data : (m d : List ℕ) → Payload q m d
      → bytes_at (run (bit_of (m ++ d)) 0 (8 * payload q)) (8 * q.metadata) q.«data» ≡ d
  unfolding payload
  bytes_at-data m d h = let l = h.metadata.count in bytes_at-ext _ (8 * q.metadata) q.«data» d h.«data» (λ p k.
      sym (run_at (bit_of (m ++ d)) 0 (8 * (q.metadata + q.«data»)) (8 * q.metadata + p) false (omega arith)
      ∙ rw (zero-add (8 * q.metadata + p), ← l) (bit_of-second m d p)))

  pub take_by-payload : (m d : List ℕ) → Payload q m d → (old-m old-d : List ℕ)
      → take_by q (done (run (bit_of (m ++ d)) 0 (8 * payload q))) old-m old-d ≡ take_ended 0 0 m d
  unfolding take_by
  take_by-payload m d h old-m old-d = rw (bytes_at-metadata m d h, bytes_at-data m d h)

  -- One who shows of each block the message that it gives has taken the payload.
  pub take_gives : Valid q → (page m d : List ℕ) (n : ℕ → ℕ) → length page ≡ q.size → Payload q m d
      → ((b : ℕ) → b < q.blocks → GivesAt q page b (message q (m ++ d) b) (n b))
      → (old-m old-d : List ℕ) → length old-m ≡ q.metadata → length old-d ≡ q.«data» → take_in q page old-m old-d ≡ take_ended 0 0 m d
  take_gives v page m d n a h g old-m old-d i j =
      take-right page old-m old-d a i j
      ∙ ap (λ (r : Reading). take_by q r old-m old-d) (gives-reading q v (m ++ d) page n g)
      ∙ take_by-payload m d h old-m old-d

  -- One who shows the lowest ruined block has refused the page.
  pub take-refuses : (page m d : List ℕ) (b : ℕ) → length page ≡ q.size → length m ≡ q.metadata → length d ≡ q.«data» → Lowest q page b
      → take_in q page m d ≡ take_ended 9 b m d
  unfolding take_by
  take-refuses page m d b a i j h = take-right page m d a i j ∙ rw (lowest-refused q page b h)
