-- Why a layout record is refused (document 02, E2): the reply, what it is about, and the two numbers that were compared. The first broken rule
-- and its numbers are those of layout/Acceptance `finding_of`.
--
-- why r about n m         a refusal with its two numbers
-- about_kind k             what a broken rule is about: block 0, a later block, the page
-- rule_why r               a broken rule: 1: field and 20, 2: message bits and 1, 3 and 4: bits needed and bits allowed, 11: the sum and PAGE_SIZE,
--                         or the zero bits and 0
-- why_of e n r             why a record of n bytes is refused under the edition e
-- explain_for, explain_layout words     the answer to a layout record, by whether it is accepted
use Rattle.std.specs.Prelude.{ℕ, length, ⊤, Result, Ok, Err}
use Rattle.replies.specs.declared.Refusal as table
use Rattle.replies.specs.declared.Refusal.TheVariants as row
use Rattle.layout.specs.declared.Kind.{Kind}
use Rattle.layout.specs.declared.Kind.TheVariants as kind
use Rattle.layout.specs.declared.Reason.{Reason}
use Rattle.layout.specs.declared.Refusal.{Refusal}
use Rattle.layout.specs.declared.Refusal.TheVariants as refusal
use Rattle.layout_plan.specs.declared.Layout.{Layout}
use Rattle.layout_plan.specs.Record.{Words}
use Rattle.layout.specs.Acceptance as layout
use Rattle.layout.specs.Acceptance.{rule_refusal}
use Rattle.explain.specs.declared.About.{About}
use Rattle.explain.specs.declared.About.TheVariants as about
use Rattle.explain.specs.declared.Why.{Why}

unfoldable pub why : table.Refusal → About → ℕ → ℕ → Why
why r a n m = record { refusal = r; about = a; found = n; limit = m }

unfoldable pub about_kind : Kind → About
about_kind kind.First = about.First
about_kind kind.Later = about.Later
about_kind kind.Page = about.Page

unfoldable pub rule_why : Reason → Why
rule_why r = why (rule_refusal r.rule) (about_kind r.kind) r.found r.limit

-- The editions go up to 2; a record has eight bytes, or twelve. No layout is refused for a position: the last case does not occur
-- (proofs/Truth `layout-true`).
unfoldable pub why_of : ℕ → ℕ → Refusal → Why
why_of e n refusal.Edition = why row.OutOfRange about.Edition e 2
why_of e n refusal.RecordLength = why row.BufferLength about.Record n 8
why_of e n (refusal.Rule r) = rule_why r
why_of e n refusal.Range = why row.OutOfRange about.Position 0 0

unfoldable pub explain_for : ℕ → ℕ → Result Layout Refusal → Result ⊤ Why
explain_for e n (Ok l) = Ok _
explain_for e n (Err r) = Err (why_of e n r)

unfoldable pub explain_layout : Words → Result ⊤ Why
explain_layout w = explain_for w.edition (length w.bytes) (layout.acceptance w)
