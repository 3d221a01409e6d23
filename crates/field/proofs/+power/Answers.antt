-- `field::power` meets its contract: the power of half the exponent, squared, and times the element where the exponent is odd.
use mathlib.Core.Path.{sym, ap, ap₂, ◌∙◌}
use Rattle.field.specs.Field.{mul, pow}
use Rattle.field.proofs.Primitive.{usable}
use Rattle.field.proofs.Multiply.{one_below}
use Rattle.field.proofs.Exponents.{pow_even, pow-odd}
use Rattle.field.proofs.+power.Goals as goal

pub returns-then-n-eq0 : goal.returns-then-n-eq0
unfolding pow
returns-then-n-eq0 t c = record { value = sym (ap (pow _ _ c.args.x) c.if-n-eq0.true); low = one_below (usable c.args.f) }

pub returns-then-n-eq1 : goal.returns-then-n-eq1
returns-then-n-eq1 t c =
    let half = c.power-half.ensures.value in
    record {
      value =
          c.product.ensures.value
          ∙ ap (mul _ _ c.args.x) (c.product-square.ensures.value ∙ ap₂ (mul _ _) half half)
          ∙ sym (pow-odd (usable c.args.f) _ _ c.requires c.if-n-eq1.true);
      low = c.product.ensures.low;
    }

pub returns-else-n-eq1 : goal.returns-else-n-eq1
returns-else-n-eq1 t c =
    let half = c.power-half.ensures.value in
    record {
      value =
          c.product-square.ensures.value ∙ ap₂ (mul _ _) half half
          ∙ sym (pow_even (usable c.args.f) _ _ c.requires c.if-n-eq1.false);
      low = c.product-square.ensures.low;
    }
