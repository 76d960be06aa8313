-- `copy` meets its contract: after k words, those before k are in their places.
-- Assumes nothing.
use Rattle.std.proofs.Common.{inl, inr, ◌≡◌, ◌<◌, length, refl, length-set, rules}
use Rattle.events.proofs.Committing.{Turned, all_in, committing_next, committing_start, place_within}
use Rattle.events.proofs.transfer.copy.Goals as goal
use Rattle.events.proofs.transfer.copy.Goals.{Joined-k-header}
use Rattle.events.proofs.transfer.copy.Goals.{then-k-header, else-k-header}

pub loop-k-init : goal.loop-k-init
loop-k-init c =
    record {
      from = search rules;
      to = search rules;
      same = refl;
      copied = committing_start c.args.sectors.now c.args.staging.now c.args.start _ _ _ c.requires.from;
    }

-- a turn went to the fields' place, or stayed
turned : (c : Joined-k-header) → Turned c.args.sectors.now c.args.staging.now c.args.start c.args.first c.args.header c.args.fields_at (c.loop-k.k ≡ c.args.header) (c.loop-k.k ≡ c.args.header → ⊥) c.loop-k.at c.if-k-header.at
turned c = elim c.if-k-header.branch [ then-k-header w ↦ inl (w.if-k-header.true, w.at-is) | else-k-header w ↦ inr (w.if-k-header.false, w.at-is) ]

inside : (c : Joined-k-header) → c.if-k-header.at < length c.args.sectors.now
inside c = place_within c.args.sectors.now c.args.staging.now c.args.start _ _ _ _ _ _ _ _ (λ h. h) (λ h. h) c.loop-k-test.true c.loop-k.invariant.copied (turned c) c.requires

pub offset_bounds-sectors-at : goal.offset_bounds-sectors-at
offset_bounds-sectors-at c = let fits = inside (goal.at.offset_bounds-sectors-at c).Joined-k-header in search rules

pub bounds-sectors-at : goal.bounds-sectors-at
bounds-sectors-at c = let fits = inside (goal.at.bounds-sectors-at c).Joined-k-header in search rules

pub overflow_add-at-in-loop-k : goal.overflow_add-at-in-loop-k
overflow_add-at-in-loop-k c = let fits = inside (goal.at.overflow_add-at-in-loop-k c).Joined-k-header in search rules

pub loop-k-preserved : goal.loop-k-preserved
loop-k-preserved c =
    let inv = c.loop-k.invariant in
    record {
      from = search rules;
      to = search rules;
      same = simp length-set inv.same;
      copied = committing_next c.args.sectors.now c.args.staging.now c.args.start _ _ _ _ _ _ _ _ (λ h. h) (λ h. h) inv.from c.loop-k-test.true inv.copied (turned (goal.at.loop-k-preserved c).Joined-k-header) c.requires;
    }

pub returns : goal.returns
returns c =
    let a = c.args in
    all_in a.sectors.now a.staging.now a.start _ _ _ _ _ _ _ c.loop-k.invariant.to c.loop-k-test.false c.loop-k.invariant.copied c.requires.headers
