-- Laws of fields of characteristic 2, and the rules `ring` by which `simp ring` brings both sides of an equation to one form.
use mathlib.Core.Path.{◌≡◌, sym, ap, ◌∙◌}
use Rattle.algebra.specs.Field.{BinaryField}

module _ (K : BinaryField) where
  open K use {carrier as F, add as ◌⊕◌, mul as ◌⊗◌, nil as 𝟘, one as 𝟙}

  infixl 60 ◌⊕◌
  infixl 70 ◌⊗◌
  -- The record's own laws, under names that `ring` can hold.
  pub add_assoc : (a b c : F) → (a ⊕ b) ⊕ c ≡ a ⊕ (b ⊕ c)
  add_assoc = K.add_assoc

  pub add_comm : (a b : F) → a ⊕ b ≡ b ⊕ a
  add_comm = K.add_comm

  pub add-nil : (a : F) → a ⊕ 𝟘 ≡ a
  add-nil = K.add-nil

  pub add-self : (a : F) → a ⊕ a ≡ 𝟘
  add-self = K.add-self

  pub mul_assoc : (a b c : F) → (a ⊗ b) ⊗ c ≡ a ⊗ (b ⊗ c)
  mul_assoc = K.mul_assoc

  pub mul_comm : (a b : F) → a ⊗ b ≡ b ⊗ a
  mul_comm = K.mul_comm

  pub mul-one : (a : F) → a ⊗ 𝟙 ≡ a
  mul-one = K.mul-one

  pub mul-add : (a b c : F) → a ⊗ (b ⊕ c) ≡ a ⊗ b ⊕ a ⊗ c
  mul-add = K.mul-add

  pub nil-add : (a : F) → 𝟘 ⊕ a ≡ a
  nil-add a = add_comm 𝟘 a ∙ add-nil a

  pub add_left_comm : (a b c : F) → a ⊕ (b ⊕ c) ≡ b ⊕ (a ⊕ c)
  add_left_comm a b c = sym (add_assoc a b c) ∙ ap (λ x. x ⊕ c) (add_comm a b) ∙ add_assoc b a c

  pub add-cancel : (a b : F) → a ⊕ (a ⊕ b) ≡ b
  add-cancel a b = sym (add_assoc a a b) ∙ ap (λ x. x ⊕ b) (add-self a) ∙ nil-add b

  pub mul_left_comm : (a b c : F) → a ⊗ (b ⊗ c) ≡ b ⊗ (a ⊗ c)
  mul_left_comm a b c = sym (mul_assoc a b c) ∙ ap (λ x. x ⊗ c) (mul_comm a b) ∙ mul_assoc b a c

  pub one-mul : (a : F) → 𝟙 ⊗ a ≡ a
  one-mul a = mul_comm 𝟙 a ∙ mul-one a

  -- a 0 = a 0 + a 0 = 0
  pub mul-nil : (a : F) → a ⊗ 𝟘 ≡ 𝟘
  mul-nil a = sym (ap (λ x. a ⊗ x) (add-self 𝟘)) ∙ mul-add a 𝟘 𝟘 ∙ add-self (a ⊗ 𝟘)

  pub nil-mul : (a : F) → 𝟘 ⊗ a ≡ 𝟘
  nil-mul a = mul_comm 𝟘 a ∙ mul-nil a

  pub add-mul : (a b c : F) → (a ⊕ b) ⊗ c ≡ a ⊗ c ⊕ b ⊗ c
  add-mul a b c = mul_comm _ _ ∙ mul-add _ _ _ ∙ simp (mul_comm c)

  -- a + b = c, so a = c + b
  pub add-move : (a b c : F) → a ⊕ b ≡ c → a ≡ c ⊕ b
  add-move a b c h = rw (← h) (simp (add_assoc, add-self, add-nil))

  -- Two elements are equal where their sum is zero.
  pub add-nil-eq : (a b : F) → a ⊕ b ≡ 𝟘 → a ≡ b
  add-nil-eq a b h = add-move a b 𝟘 h ∙ nil-add b

pub ruleset ring-sums = (nil-add, add-nil, add-self, add-cancel, add_assoc, add_comm, add_left_comm)

pub ruleset ring-products = (one-mul, mul-one, nil-mul, mul-nil, mul_assoc, mul_comm, mul_left_comm)

pub ruleset ring = (ring-sums, ring-products, mul-add, add-mul)
