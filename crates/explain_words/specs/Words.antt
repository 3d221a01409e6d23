-- Explanations in words of 64 bits (document 02, E2).
--
-- shown_to m n                   n, or m where n is larger: what is shown of a number where there is no room for a larger one than m
-- explanation_word r a n m       reply in bits 0 to 7, what it is about in bits 8 to 15, the two numbers in bits 16 to 39 and 40 to 63
-- about_number, part_number       the numbers of what a refusal is about, and of the parts of a page
-- why_word y                     the word of a refusal
-- layout_word a                  that of the answer to a layout record
-- finding_word x                 that of what is found of one block: flips (0) or zeros (1) and t; of a ruined block 9, its number and t
-- block_word a                   that of the answer to one block
-- spot_word x                    that of a place: part in bits 8 to 15, block in bits 16 to 23, bit in bits 24 to 31, byte of the page in bits 32 to 47,
--                               byte of metadata or data in bits 48 to 63
-- place_word a                   that of the answer to a page position
-- reply_in, about_in, found_in, limit_in           the numbers in the word of a refusal
-- part_in, block_in, bit_in, byte_in, index_in      the numbers in the word of a place
use Rattle.std.specs.Prelude.{cond, ℕ, ◌+◌, ◌*◌, ◌/◌, ◌%◌, ltb, ⊤, Result, Ok, Err}
use Rattle.replies.specs.Replies.{number}
use Rattle.explain.specs.declared.About.{About}
use Rattle.explain.specs.declared.About.TheVariants as about
use Rattle.explain.specs.declared.Why.{Why}
use Rattle.explain.specs.declared.Part.{Part}
use Rattle.explain.specs.declared.Part.TheVariants as part
use Rattle.explain.specs.declared.Place.{Place}
use Rattle.page_explain.specs.declared.BlockFinding.{BlockFinding}
use Rattle.page_explain.specs.declared.BlockFinding.TheVariants as finding

unfoldable pub shown_to : ℕ → ℕ → ℕ
shown_to m n = cond (ltb n m) n m

unfoldable pub explanation_word : ℕ → ℕ → ℕ → ℕ → ℕ
explanation_word r a n m = r + 0x100 * a + 0x10000 * shown_to 0xFFFFFF n + 0x10000000000 * shown_to 0xFFFFFF m

unfoldable pub about_number : About → ℕ
about_number about.Edition = 1
about_number about.Record = 2
about_number about.First = 3
about_number about.Later = 4
about_number about.Page = 5
about_number about.Lent = 6
about_number about.List = 7
about_number about.Block = 8
about_number about.Position = 9

unfoldable pub part_number : Part → ℕ
part_number part.Metadata = 1
part_number part.Data = 2
part_number part.Parity = 3
part_number part.Tail = 4
part_number part.Mark = 5

unfoldable pub why_word : Why → ℕ
why_word y = explanation_word (number y.refusal) (about_number y.about) y.found y.limit

unfoldable pub layout_word : Result ⊤ Why → ℕ
layout_word (Ok _) = 0
layout_word (Err y) = why_word y

unfoldable pub finding_word : BlockFinding → ℕ
finding_word (finding.Flips n t) = explanation_word 0 0 n t
finding_word (finding.Erased z t) = explanation_word 0 1 z t
finding_word (finding.Ruined b t) = explanation_word 9 8 b t

unfoldable pub block_word : Result BlockFinding Why → ℕ
block_word (Ok x) = finding_word x
block_word (Err y) = why_word y

unfoldable pub spot_word : Place → ℕ
spot_word x =
    0x100 * part_number x.part + 0x10000 * shown_to 0xFF x.block + 0x1000000 * shown_to 0xFF x.bit
    + 0x100000000 * shown_to 0xFFFF x.byte + 0x1000000000000 * shown_to 0xFFFF x.index

unfoldable pub place_word : Result Place Why → ℕ
place_word (Ok x) = spot_word x
place_word (Err y) = why_word y

unfoldable pub reply_in : ℕ → ℕ
reply_in w = w % 0x100

unfoldable pub about_in : ℕ → ℕ
about_in w = w / 0x100 % 0x100

unfoldable pub found_in : ℕ → ℕ
found_in w = w / 0x10000 % 0x1000000

unfoldable pub limit_in : ℕ → ℕ
limit_in w = w / 0x10000000000

unfoldable pub part_in : ℕ → ℕ
part_in w = w / 0x100 % 0x100

unfoldable pub block_in : ℕ → ℕ
block_in w = w / 0x10000 % 0x100

unfoldable pub bit_in : ℕ → ℕ
bit_in w = w / 0x1000000 % 0x100

unfoldable pub byte_in : ℕ → ℕ
byte_in w = w / 0x100000000 % 0x10000

unfoldable pub index_in : ℕ → ℕ
index_in w = w / 0x1000000000000
