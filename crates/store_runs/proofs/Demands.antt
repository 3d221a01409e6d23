-- The owner's demands at page calls that name a version (document 02, E11): demand 2 and demand 3's refusal clause at each call whose version the
-- store then holds; the rest of demand 3 under one version that the store holds at each write, look and take, in one sequence of calls.
--
-- held-names                     a version that a state of a sequence holds is the layout of accepted words
-- names-on                       where a later state of the sequence holds it, it is the layout of the same words
-- names-sums                     the sums kept with it are document 01's (document 02, E8)
-- write-named, look-named, take-named, judge-named, claim-named    a page call by version is the call with the edition and the record
-- unknown-write, unknown-look, unknown-take, unknown-judge, unknown-claim    an unknown version is 7, and what was lent is left
-- version-writes, version-writes-only, version-looks, version-takes    demand 2
-- version-look-refused-.., version-take-refused-..                demand 3, the refusal clause: naming, when, only
-- version-reads-back, version-told-apart                          the rest of demand 3
use mathlib.Core.Path.{◌≡◌, refl, sym, ap, ◌∙◌}
use mathlib.Core.Bool.{Bool}
use mathlib.Core.List.{List, ◌++◌}
use Prim.Native.Nat.{ℕ, ◌<◌}
use lib.ListN.{length}
use Rattle.bits.specs.Bits.{run}
use Rattle.layout_plan.specs.declared.Plan.{Plan}
use Rattle.layout_plan.specs.Record.{Words, fields_in}
use Rattle.layout_plan.specs.Plan.{Sums, plan_of}
use Rattle.replies.specs.Replies.{number}
use Rattle.layout.specs.Acceptance.{acceptance, refusal_of, refusal_reply}
use Rattle.layout.proofs.Accepting.{accepted-sums}
use Rattle.page_theory.specs.Page.{page_of}
use Rattle.page_theory.specs.Reading.{RefusedAt, Lowest, counts}
use Rattle.page_theory.specs.Damage.{Accepts, Payload, Outputs, flips, Damaged, WrittenAndDamaged}
use Rattle.page_theory.specs.Demands.{Stands, Looks, Takes}
use Rattle.page_theory.specs.Calls.{write_ended, write_for, write_of, Looked, look_ended, look_for, look_of, Taken, take_ended, take_for, take_of}
use Rattle.page_theory.specs.Calls.{judge_ended, judge_for, judge_of, claim_ended, claim_for, claim_of}
use Rattle.page_theory.proofs.Accepted.{words-accepts}
use Rattle.page_theory.proofs.Demand2.{write_done, write-only, take-blocks, look-blocks}
use Rattle.page_theory.proofs.Demand3.{looks-back, takes_back, told-apart, look-refused-naming, look-refused-when, look-refused-only}
use Rattle.page_theory.proofs.Demand3.{take-refused-naming, take-refused-when, take-refused-only}
use Rattle.version_list.specs.declared.Numbered.{Numbered}
use Rattle.std.specs.Prelude.{Some, None}
use Rattle.version_list.specs.Plain.{Listed, find}
use Rattle.store_runs.specs.Runs.{lookup_answer, version_of, Call, after_all}
use Rattle.store_runs.specs.Reached as reached
use Rattle.store_runs.specs.Reached.{Reached}
use Rattle.store_runs.specs.Versions.{Names}
use Rattle.store_runs.proofs.Lists.{every-found}
use Rattle.store_runs.proofs.Reached.{reached-all}
use Rattle.store_runs.proofs.Numbers.{one-layout, same_version}

-- ---- a version that is held

-- the answer to a version is the answer to its words
found-answer : (s : Listed) (v : ℕ) (e : Numbered) → find s.layouts v ≡ Some e → (a : reached.Accepted e) → version_of s v ≡ acceptance a.words
unfolding version_of lookup_answer plan_of
found-answer s v e h a = rw (h, a.plan) (sym a.accepted)

accepted-plan : (e : Numbered) (a : reached.Accepted e) → Accepts (acceptance a.words) e.plan
accepted-plan e a = rw a.plan (words-accepts a.words a.layout a.accepted)

pub held-names : (s : Listed) → Reached s → (v : ℕ) (e : Numbered) → find s.layouts v ≡ Some e → (w : Words) × Names s v w e.plan
held-names s r v e h =
    let a = every-found v e r.accepted h in
    (a.words, record { entry = e; found = h; plan = refl; edition = a.edition; accepts = accepted-plan e a; answer = found-answer s v e h a })

-- ---- a version that is not held

module _ (s : Listed) (v : ℕ) (h : find s.layouts v ≡ None) where
  pub unknown-write : (m d page : List ℕ) → write_for (version_of s v) m d page ≡ write_ended 7 0 page
  unfolding version_of lookup_answer write_for refusal_reply refusal_of number
  unknown-write m d page = rw h

  pub unknown-look : (page c : List ℕ) → look_for (version_of s v) page c ≡ look_ended 7 0 c
  unfolding version_of lookup_answer look_for refusal_reply refusal_of number
  unknown-look page c = rw h

  pub unknown-take : (page m d : List ℕ) → take_for (version_of s v) page m d ≡ take_ended 7 0 m d
  unfolding version_of lookup_answer take_for refusal_reply refusal_of number
  unknown-take page m d = rw h

  pub unknown-judge : (page : List ℕ) (b : ℕ) → judge_for (version_of s v) page b ≡ judge_ended 7 0 0
  unfolding version_of lookup_answer judge_for refusal_reply refusal_of number
  unknown-judge page b = rw h

  pub unknown-claim : (page : List ℕ) (b : ℕ) (claims : List ℕ) → claim_for (version_of s v) page b claims ≡ claim_ended 7
  unfolding version_of lookup_answer claim_for refusal_reply refusal_of number
  unknown-claim page b claims = rw h

-- ---- a version that is held at two states

module _ (s : Listed) (r : Reached s) (v : ℕ) (w : Words) (q : Plan) (n : Names s v w q) where
  pub names-on : (cs : List Call) (x : Numbered) → find (after_all s cs).layouts v ≡ Some x → Names (after_all s cs) v w q
  names-on cs x h = record {
    entry = n.entry;
    found = h ∙ ap Some (sym (one-layout v n.entry s r cs x n.found h));
    plan = n.plan;
    edition = n.edition;
    accepts = n.accepts;
    answer = same_version s r cs v n.entry x n.found h ∙ n.answer;
  }

module _ (s : Listed) (v : ℕ) (w : Words) (q : Plan) (n : Names s v w q) where
  pub names-sums : Sums (fields_in w) q
  names-sums = rw n.accepts.plan (accepted-sums w n.accepts.layout n.accepts.accepted)

  -- ---- a page call by version is the call with the edition and the record

  pub write-named : (m d page : List ℕ) → write_for (version_of s v) m d page ≡ write_of w m d page
  write-named m d page = rw n.answer

  pub look-named : (page c : List ℕ) → look_for (version_of s v) page c ≡ look_of w page c
  look-named page c = rw n.answer

  pub take-named : (page m d : List ℕ) → take_for (version_of s v) page m d ≡ take_of w page m d
  take-named page m d = rw n.answer

  pub judge-named : (page : List ℕ) (b : ℕ) → judge_for (version_of s v) page b ≡ judge_of w page b
  judge-named page b = rw n.answer

  pub claim-named : (page : List ℕ) (b : ℕ) (claims : List ℕ) → claim_for (version_of s v) page b claims ≡ claim_of w page b claims
  claim-named page b claims = rw n.answer

  -- ---- demand 2

  pub version-looks : (page c : List ℕ) → length page ≡ q.size → length c ≡ q.blocks → Looks q page (look_for (version_of s v) page c)
  version-looks page c size lent = rw (look-named page c) (look-blocks (acceptance w) q n.accepts page c size lent)

  pub version-takes : (page m d : List ℕ) → (take_for (version_of s v) page m d).reply ≡ 0 → Takes q page (take_for (version_of s v) page m d)
  version-takes page m d h = rw (take-named page m d) (take-blocks (acceptance w) q n.accepts page m d (ap (λ (x : Taken). x.reply) (sym (take-named page m d)) ∙ h))

  -- ---- demand 3, the refusal clause

  module _ (page : List ℕ) (size : length page ≡ q.size) where
    module _ (c : List ℕ) (lent : length c ≡ q.blocks) where
      pub version-look-refused-naming : (b : ℕ) → Lowest q page b → look_for (version_of s v) page c ≡ look_ended 9 b (counts q page)
      version-look-refused-naming b h = look-named page c ∙ look-refused-naming (acceptance w) q n.accepts page size c lent b h

      pub version-look-refused-when : (b : ℕ) → b < q.blocks → RefusedAt q page b → (look_for (version_of s v) page c).reply ≡ 9
      version-look-refused-when b l h = ap (λ (x : Looked). x.reply) (look-named page c) ∙ look-refused-when (acceptance w) q n.accepts page size c lent b l h

      pub version-look-refused-only : (look_for (version_of s v) page c).reply ≡ 9 → Lowest q page (look_for (version_of s v) page c).block
      version-look-refused-only h =
          rw (look-named page c) (look-refused-only (acceptance w) q n.accepts page size c lent (ap (λ (x : Looked). x.reply) (sym (look-named page c)) ∙ h))

    module _ (m d : List ℕ) (lent-m : length m ≡ q.metadata) (lent-d : length d ≡ q.«data») where
      pub version-take-refused-naming : (b : ℕ) → Lowest q page b → take_for (version_of s v) page m d ≡ take_ended 9 b m d
      version-take-refused-naming b h = take-named page m d ∙ take-refused-naming (acceptance w) q n.accepts page size m d lent-m lent-d b h

      pub version-take-refused-when : (b : ℕ) → b < q.blocks → RefusedAt q page b → (take_for (version_of s v) page m d).reply ≡ 9
      version-take-refused-when b l h = ap (λ (x : Taken). x.reply) (take-named page m d) ∙ take-refused-when (acceptance w) q n.accepts page size m d lent-m lent-d b l h

      pub version-take-refused-only : (take_for (version_of s v) page m d).reply ≡ 9 → Lowest q page (take_for (version_of s v) page m d).block
      version-take-refused-only h =
          rw (take-named page m d)
          (take-refused-only (acceptance w) q n.accepts page size m d lent-m lent-d (ap (λ (x : Taken). x.reply) (sym (take-named page m d)) ∙ h))

  -- ---- demand 2, the written page

  module _ (m d page : List ℕ) (payload : Payload q m d) (lent : length page ≡ q.size) where
    pub version-writes : write_for (version_of s v) m d page ≡ write_ended 0 0 (page_of q page (m ++ d))
    version-writes = write-named m d page ∙ write_done (acceptance w) q n.accepts m d page payload lent

    pub version-writes-only : (other : List ℕ) → Stands q page (m ++ d) other → other ≡ (write_for (version_of s v) m d page).page
    version-writes-only other h = rw (write-named m d page) (write-only (acceptance w) q n.accepts m d page payload lent other h)

  -- what was written under the version, and then damaged
  damaged-words : (m d lent page : List ℕ) (f : ℕ → ℕ → Bool) → Payload q m d → length lent ≡ q.size
      → Damaged q (write_for (version_of s v) m d lent).page page f → WrittenAndDamaged (acceptance w) q m d page f
  damaged-words m d lent page f p l h = record { payload = p; lent = lent; size = l; damaged = rw (write-named m d lent) at h }

-- ---- the rest of demand 3, in one sequence of calls

module _ (s : Listed) (r : Reached s) (v : ℕ) (w : Words) (q : Plan) (n : Names s v w q) where
  -- The page is written at the state s, looked at after the calls cs and taken after the calls ds, and the store holds the version each time.
  pub version-reads-back : (m d lent page : List ℕ) (f : ℕ → ℕ → Bool) → Payload q m d → length lent ≡ q.size
      → Damaged q (write_for (version_of s v) m d lent).page page f
      → (cs ds : List Call) (x y : Numbered) → find (after_all s cs).layouts v ≡ Some x → find (after_all (after_all s cs) ds).layouts v ≡ Some y
      → (old-m old-d old-c : List ℕ) → Outputs q old-m old-d old-c
      → (look_for (version_of (after_all s cs) v) page old-c ≡ look_ended 0 0 (run (flips q f) 0 q.blocks))
      × (take_for (version_of (after_all (after_all s cs) ds) v) page old-m old-d ≡ take_ended 0 0 m d)
  version-reads-back m d lent page f p l h cs ds x y at-look at_take old-m old-d old-c o =
      let t = after_all s cs in
      let k = names-on s r v w q n cs x at-look in
      let j = names-on t (reached-all s cs r) v w q k ds y at_take in
      let g = damaged-words s v w q n m d lent page f p l h in (
        look-named t v w q k page old-c ∙ looks-back (acceptance w) q n.accepts m d page f g old-c o.counts,
        take-named (after_all t ds) v w q j page old-m old-d ∙ takes_back (acceptance w) q n.accepts m d page f g old-m old-d o.metadata o.«data»,
      )

  -- Two payloads are written at two states that hold the version.
  pub version-told-apart : (m d lent page : List ℕ) (f : ℕ → ℕ → Bool) → Payload q m d → length lent ≡ q.size
      → Damaged q (write_for (version_of s v) m d lent).page page f
      → (cs : List Call) (x : Numbered) → find (after_all s cs).layouts v ≡ Some x
      → (m' d' lent' page' : List ℕ) (f' : ℕ → ℕ → Bool) → Payload q m' d' → length lent' ≡ q.size
      → Damaged q (write_for (version_of (after_all s cs) v) m' d' lent').page page' f'
      → (m ≡ m' → d ≡ d' → ⊥)
      → page ≡ page' → ⊥
  version-told-apart m d lent page f p l h cs x held m' d' lent' page' f' p' l' h' different same =
      let k = names-on s r v w q n cs x held in
      told-apart (acceptance w) q n.accepts m d page f (damaged-words s v w q n m d lent page f p l h) m' d' page' f'
      (damaged-words (after_all s cs) v w q k m' d' lent' page' f' p' l' h') different same
