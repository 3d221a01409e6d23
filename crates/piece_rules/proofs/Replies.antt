-- Laws of the rules: the reply about a block, a usable state, and the reply about finishing.
use mathlib.Core.Path.{◌≡◌, refl, sym, ◌∙◌}
use mathlib.Core.Bool.{Bool, true, false, true≢false}
use Prim.Native.Nat.{ℕ, ◌+◌, ◌*◌, ◌^◌, ◌≤◌, ◌<◌}
use native.Mathlib.Omega.{arith}
use native.Mathlib.Decide.{dec_lt}
use lib.Dec.{eqb, ltb, leb}
use borrow.Author.Tests.{eq-eqb, ne_eqb, le-leb, lt-leb, lt-ltb, le-ltb, eqb-true, leb-true, ltb-true}
use Rattle.field.specs.declared.Field.{Field}
use Rattle.field.specs.declared.Field.TheVariants.{Thirteen, Fourteen}
use Rattle.field.specs.Field.{degree, longest}
use Rattle.std.specs.Prelude.{⊤, Result, Ok, Err, is_err}
use Rattle.replies.specs.declared.Refusal.{Refusal}
use Rattle.replies.specs.Replies.{number, verdict_number}
use Rattle.replies.proofs.Given.{number-positive}
use Rattle.replies.specs.Edition.{highest}
use Rattle.replies.proofs.Editions.{highest-small}
use Rattle.layout_plan.specs.Plan.{shape_with}
use Rattle.layout.specs.Acceptance.{test, either, level_rule, message_rule, length_rule, rule_refusal, rule_number}
use Rattle.code.specs.Register.{register}
use Rattle.remainder.specs.Remainder.{bytes_for}
use Rattle.remainder.proofs.Fold.{parity-bits-below}
use Rattle.piece_rules.specs.declared.State.{State}
use Rattle.piece_rules.specs.Rules.{shape_for, finding_reply, start_reply, usable, finish_reply}

-- ---- a verdict

pub refused-some : (v : Result ⊤ Refusal) → is_err v ≡ true → verdict_number v ≡ 0 → ⊥
unfolding verdict_number
refused-some (Ok u) h e = true≢false (sym h)
refused-some (Err r) h e = omega (arith, number-positive r)

pub passed-none : (v : Result ⊤ Refusal) → is_err v ≡ false → verdict_number v ≡ 0
unfolding verdict_number
passed-none (Ok u) h = refl
passed-none (Err r) h = absurd (true≢false h)

-- ---- a block

pub longest-most : (f : Field) → longest f ≤ 16383
unfolding longest
longest-most Thirteen = omega arith
longest-most Fourteen = omega arith

module _ (edition : ℕ) (f : Field) (level n : ℕ) where
  pub reply-level : highest edition < level → 1 ≡ start_reply edition f level n
  unfolding start_reply level_rule test either finding_reply rule_number rule_refusal number
  reply-level h = rw (lt-ltb (highest edition) level h)

  module _ (low : level ≤ highest edition) where
    pub reply-empty : n ≡ 0 → 2 ≡ start_reply edition f level n
    unfolding start_reply level_rule message_rule shape_for shape_with test either finding_reply rule_number rule_refusal number
    reply-empty e = rw (le-ltb (highest edition) level low, lt-ltb (8 * n) 1 (omega arith))

    module _ (some : 0 < n) where
      pub reply-plain : level ≡ 0 → 0 ≡ start_reply edition f level n
      unfolding start_reply level_rule message_rule length_rule shape_for shape_with test either finding_reply rule_number rule_refusal number
      reply-plain e = rw (le-ltb (highest edition) level low, le-ltb (8 * n) 1 (omega arith), eq-eqb (2 * level) 0 (omega arith))

      module _ (coded : 0 < level) where
        pub reply-long : longest f < 8 * n + degree f * (2 * level) → 3 ≡ start_reply edition f level n
        unfolding start_reply level_rule message_rule length_rule shape_for shape_with test either finding_reply rule_number rule_refusal number
        reply-long h = rw (
          le-ltb (highest edition) level low,
          le-ltb (8 * n) 1 (omega arith),
          ne_eqb (2 * level) 0 (λ e. omega arith),
          lt-ltb (longest f) (8 * n + degree f * (2 * level)) h,
        )

        pub reply-right : 8 * n + degree f * (2 * level) ≤ longest f → 0 ≡ start_reply edition f level n
        unfolding start_reply level_rule message_rule length_rule shape_for shape_with test either finding_reply rule_number rule_refusal number
        reply-right h = rw (
          le-ltb (highest edition) level low,
          le-ltb (8 * n) 1 (omega arith),
          ne_eqb (2 * level) 0 (λ e. omega arith),
          le-ltb (longest f) (8 * n + degree f * (2 * level)) h,
        )

  -- what holds of a block that gets no reply
  module _ (right : start_reply edition f level n ≡ 0) where
    pub right-level : level ≤ highest edition
    right-level = elim (dec_lt (highest edition) level) [ yes h ↦ absurd (omega (arith, reply-level h)) | no h ↦ omega arith ]

    pub right-size : 0 < n
    right-size = elim (dec_lt 0 n) [ yes h ↦ h | no h ↦ absurd (omega (arith, reply-empty right-level (omega arith))) ]

    pub right-length : 0 < level → 8 * n + degree f * (2 * level) ≤ longest f
    right-length c = elim (dec_lt (longest f) (8 * n + degree f * (2 * level))) [
      | yes h ↦ absurd (omega (arith, reply-long right-level right-size c h))
      | no h ↦ omega arith
    ]

-- What a start under some edition accepts one under edition 2 accepts.
pub right-second : (edition : ℕ) (f : Field) (level n : ℕ) → start_reply edition f level n ≡ 0 → start_reply 2 f level n ≡ 0
right-second edition f level n right =
    let low : level ≤ highest 2 = unfold highest in omega (arith, right-level edition f level n right, highest-small edition) in
    let some = right-size edition f level n right in
    elim (dec_lt 0 level) [
      | no c ↦ sym (reply-plain 2 f level n low some (omega arith))
      | yes c ↦ sym (reply-right 2 f level n low some c (right-length edition f level n right c))
    ]

-- ---- a state

module _ (f : Field) (s : State) where
  pub usable-refused : {r : ℕ} → r ≡ start_reply 2 f s.level s.size → (r ≡ 0 → ⊥) → false ≡ usable f s
  unfolding usable
  usable-refused e ne = rw (ne_eqb (start_reply 2 f s.level s.size) 0 (λ z. ne (e ∙ z)))

  module _ (right : start_reply 2 f s.level s.size ≡ 0) where
    pub usable-past : s.size < s.fed → false ≡ usable f s
    unfolding usable
    usable-past h = rw (eq-eqb (start_reply 2 f s.level s.size) 0 right, lt-leb s.fed s.size h)

    pub usable-below : {r : Bool} {bits : ℕ} → s.fed ≤ s.size → bits ≡ degree f * (2 * s.level) → r ≡ ltb (register s.words) (2 ^ bits) → r ≡ usable f s
    unfolding usable
    usable-below h e g = g ∙ rw (eq-eqb (start_reply 2 f s.level s.size) 0 right, le-leb s.fed s.size h, e)

  -- what holds of a usable state
  pub record Going : Type 0 where
    pub right : start_reply 2 f s.level s.size ≡ 0
    pub inside : s.fed ≤ s.size
    pub below : register s.words < 2 ^ (degree f * (2 * s.level))

  pub usable-going : usable f s ≡ true → Going
  unfolding usable
  usable-going = go (eqb (start_reply 2 f s.level s.size) 0) (leb s.fed s.size) refl refl
    where
      go : (b c : Bool) → eqb (start_reply 2 f s.level s.size) 0 ≡ b → leb s.fed s.size ≡ c → usable f s ≡ true → Going
      go true true eb ec h = record {
        right = eqb-true (start_reply 2 f s.level s.size) 0 eb;
        inside = leb-true s.fed s.size ec;
        below = ltb-true (register s.words) (2 ^ (degree f * (2 * s.level))) (rw (eb, ec) at h);
      }
      go true false eb ec h = absurd (true≢false (sym (rw (eb, ec) at h)))
      go false c eb ec h = absurd (true≢false (sym (rw eb at h)))

  pub going-usable : Going → usable f s ≡ true
  unfolding usable
  going-usable g = rw (
    eq-eqb (start_reply 2 f s.level s.size) 0 g.right,
    le-leb s.fed s.size g.inside,
    lt-ltb (register s.words) (2 ^ (degree f * (2 * s.level))) g.below,
  )

  pub usable-level : usable f s ≡ true → s.level ≤ 31
  usable-level h = omega (arith, right-level 2 f s.level s.size (usable-going h).right, highest-small 2)

  -- a piece that fits a block with a code is short
  pub piece-short : usable f s ≡ true → (n : ℕ) → s.fed + n ≤ s.size → 0 < s.level → n < 65536
  piece-short h n l c =
      let r = right-length 2 f s.level s.size (usable-going h).right c in
      let m = longest-most f in
      omega arith

-- ---- finishing

module _ (f : Field) (s : State) (n : ℕ) where
  pub finish-unusable : usable f s ≡ false → 7 ≡ finish_reply f s n
  unfolding finish_reply number
  finish-unusable h = rw h

  module _ (going : usable f s ≡ true) where
    pub finish-early : (s.fed ≡ s.size → ⊥) → 6 ≡ finish_reply f s n
    unfolding finish_reply number
    finish-early h = rw (going, ne_eqb s.fed s.size h)

    pub finish-bytes : s.fed ≡ s.size → (n ≡ bytes_for (degree f * (2 * s.level)) → ⊥) → 6 ≡ finish_reply f s n
    unfolding finish_reply number
    finish-bytes e h = rw (going, eq-eqb s.fed s.size e, ne_eqb n (bytes_for (degree f * (2 * s.level))) h)

    pub finish-right : s.fed ≡ s.size → n ≡ bytes_for (degree f * (2 * s.level)) → 0 ≡ finish_reply f s n
    unfolding finish_reply number
    finish-right e h = rw (going, eq-eqb s.fed s.size e, eq-eqb n (bytes_for (degree f * (2 * s.level))) h)

  -- what holds where there is no reply
  pub record Whole : Type 0 where
    pub going : usable f s ≡ true
    pub all : s.fed ≡ s.size
    pub bytes : n ≡ bytes_for (degree f * (2 * s.level))

  pub finish-whole : finish_reply f s n ≡ 0 → Whole
  unfolding finish_reply number
  finish-whole = go (usable f s) (eqb s.fed s.size) (eqb n (bytes_for (degree f * (2 * s.level)))) refl refl refl
    where
      go : (a b c : Bool) → usable f s ≡ a → eqb s.fed s.size ≡ b → eqb n (bytes_for (degree f * (2 * s.level))) ≡ c → finish_reply f s n ≡ 0 → Whole
      go true true true ea eb ec h = record { going = ea; all = eqb-true s.fed s.size eb; bytes = eqb-true n (bytes_for (degree f * (2 * s.level))) ec }
      go true true false ea eb ec h = let z : ◌≡◌ {A = ℕ} 6 0 = rw (ea, eb, ec) at h in absurd (omega arith)
      go true false c ea eb ec h = let z : ◌≡◌ {A = ℕ} 6 0 = rw (ea, eb) at h in absurd (omega arith)
      go false b c ea eb ec h = let z : ◌≡◌ {A = ℕ} 7 0 = rw ea at h in absurd (omega arith)

  pub finish-room : finish_reply f s n ≡ 0 → n ≤ 112
  unfolding bytes_for
  finish-room h =
      let w = finish-whole h in
      let l = usable-level f s w.going in
      let p = parity-bits-below f (2 * s.level) (omega arith) in
      omega (arith, w.bytes)
