-- Inner promises: places of the store's array.
--
-- held count           how many layouts the places hold
-- vacant               what a place without a layout holds
-- index_of l n          the place of the first layout with the number n, and the length of the list where there is none
-- closed l at i        the list l after the layouts behind the place `at` were moved one place forward, up to the place i
use Rattle.std.specs.Prelude.{cond, List, [], ◌∷◌, ◌++◌, ℕ, suc, ◌-◌, take, drop, eqb, ltb}
use Rattle.field.specs.declared.Field.TheVariants.{Thirteen}
use Rattle.layout_plan.specs.declared.Shape.{Shape}
use Rattle.version_list.specs.declared.Numbered.{Numbered}

-- The first places of a store hold its layouts, oldest first. It has 32 places.
unfoldable pub held : ℕ → ℕ
held count = cond (ltb count 32) count 32

abbrev pub no_shape : Shape
no_shape = record { message = 0; covered = 0; pads = 0; field = Thirteen; level = 0 }

abbrev pub vacant : Numbered
vacant = record {
  number = 0;
  edition = 0;
  plan = record {
    blocks = 0;
    firsts = 0;
    size = 0;
    metadata = 0;
    «data» = 0;
    used = 0;
    first = no_shape;
    later = no_shape;
    mark = record { offset = 0; length = 0 };
  };
}

unfoldable pub index_of : List Numbered → ℕ → ℕ
index_of [] n = 0
index_of (e ∷ l) n = cond (eqb e.number n) 0 (suc (index_of l n))

unfoldable pub closed : List Numbered → ℕ → ℕ → List Numbered
closed l at i = take at l ++ (take (i - at) (drop (suc at) l) ++ drop i l)
