use mathlib.Core.Path.{sym, ◌∙◌}
use Rattle.layout_plan.specs.Record.{words_of}
use Rattle.roundtrip.proofs.Trips.{trip-unwritten, trip-written, trip-masked, trip-sizes, trip-done, trip-refused}
use Rattle.roundtrip.proofs.round.round_in.Goals as goal

pub returns-then-written-ne0 : goal.returns-then-written-ne0
returns-then-written-ne0 c = trip-unwritten (words_of c.args.edition c.args.words.now) c.args.plan c.requires c.args.metadata.now c.args.«data».now c.args.mask.now c.args.page.now c.args.metadata_out.now c.args.data_out.now c.args.counts.now c.write-written.ensures c.if-written-ne0.true

pub returns-then-not-mask_allowed : goal.returns-then-not-mask_allowed
returns-then-not-mask_allowed c = trip-masked (words_of c.args.edition c.args.words.now) c.args.plan c.requires c.args.metadata.now c.args.«data».now c.args.mask.now c.args.page.now c.args.metadata_out.now c.args.data_out.now c.args.counts.now
    (trip-written (words_of c.args.edition c.args.words.now) c.args.plan c.requires c.args.metadata.now c.args.«data».now c.args.mask.now c.args.page.now c.args.metadata_out.now c.args.data_out.now c.args.counts.now c.write-written.ensures c.if-written-ne0.false)
    (sym c.if-not-mask_allowed.true ∙ c.mask_allowed.ensures)

pub flip_by-requires : goal.flip_by-requires
flip_by-requires c = trip-sizes (words_of c.args.edition c.args.words.now) c.args.plan c.requires c.args.metadata.now c.args.«data».now c.args.mask.now c.args.page.now c.args.metadata_out.now c.args.data_out.now c.args.counts.now
    (trip-written (words_of c.args.edition c.args.words.now) c.args.plan c.requires c.args.metadata.now c.args.«data».now c.args.mask.now c.args.page.now c.args.metadata_out.now c.args.data_out.now c.args.counts.now c.write-written.ensures c.if-written-ne0.false)
    (sym c.if-not-mask_allowed.false ∙ c.mask_allowed.ensures)

pub returns-then-reply-ne0 : goal.returns-then-reply-ne0
returns-then-reply-ne0 c = trip-refused (words_of c.args.edition c.args.words.now) c.args.plan c.requires c.args.metadata.now c.args.«data».now c.args.mask.now c.args.page.now c.args.metadata_out.now c.args.data_out.now c.args.counts.now
    (λ i. (c.shared_slice_known-2-1.given i).fits) (λ i. (c.shared_slice_known-3-1.given i).fits)
    (trip-written (words_of c.args.edition c.args.words.now) c.args.plan c.requires c.args.metadata.now c.args.«data».now c.args.mask.now c.args.page.now c.args.metadata_out.now c.args.data_out.now c.args.counts.now c.write-written.ensures c.if-written-ne0.false)
    (sym c.if-not-mask_allowed.false ∙ c.mask_allowed.ensures)
    c.flip_by.ensures c.read_back-reply.ensures c.if-reply-ne0.true

pub returns : goal.returns
returns c = trip-done (words_of c.args.edition c.args.words.now) c.args.plan c.requires c.args.metadata.now c.args.«data».now c.args.mask.now c.args.page.now c.args.metadata_out.now c.args.data_out.now c.args.counts.now
    (λ i. (c.shared_slice_known-2-1.given i).fits) (λ i. (c.shared_slice_known-3-1.given i).fits)
    (trip-written (words_of c.args.edition c.args.words.now) c.args.plan c.requires c.args.metadata.now c.args.«data».now c.args.mask.now c.args.page.now c.args.metadata_out.now c.args.data_out.now c.args.counts.now c.write-written.ensures c.if-written-ne0.false)
    (sym c.if-not-mask_allowed.false ∙ c.mask_allowed.ensures)
    c.flip_by.ensures c.read_back-reply.ensures c.if-reply-ne0.false
