-- How a transaction ends, from what its calls say of the connection.
use Rattle.std.proofs.Common.{◌≡◌, ◌⊎◌, inl, inr, ℕ, ◌≤◌, length, drop, List, Option, true, false, IsTrue, sym, ap}
use Rattle.std.proofs.Common.{subst, ◌∙◌}
use Rattle.std.proofs.Common.{true≢false, arith}
use Rattle.std.proofs.lemmas.List.{drop_all}
use Rattle.sqlite_trees.specs.Tree.{Trees}
use Rattle.sqlite.specs.declared.error.Error.{Error}
use Rattle.sqlite.specs.Effect.{Database}
use Rattle.sqlite.specs.State.{State, HasCleanDisk, Shows, KeepsCommit, IsRolledBack, Survives}
use Rattle.sqlite.specs.Steps.{FailsToCommit}
use Rattle.keep.specs.Tables.{changed}
use Rattle.keep.specs.declared.change.Change.{Change}
use Rattle.base.specs.Entity.{Entity}
use Rattle.last_states.specs.Known.{Knows}
use Rattle.keep_sqlite.specs.Filing.{Filing}
use Rattle.keep_sqlite.specs.Tables.{tables_of}
use Rattle.keep_sqlite.specs.Ready.{IsFiled, IsReady, Makes, IsUnderWay}

module _ {S C : Type 0} (f : Filing S C) where
  pub all_made : (all : List (Change S C)) (at n : ℕ) (old now : State) → length all ≤ at
      → IsUnderWay f (drop at all) all n old now → Makes f (changed all) n old now
  all_made all at n old now past way = record {
    tables = subst (λ rest. changed rest (tables_of f now.now.trees) ≡ changed all (tables_of f old.now.trees))
        (drop_all at all past) way.left;
    filed = way.filed;
    sound = way.sound;
    shown = way.shown;
  }

  pub way_keeps : (rest all : List (Change S C)) (n : ℕ) (old now : State) → IsUnderWay f rest all n old now
      → KeepsCommit old now
  way_keeps rest all n old now way = record {
    was_open = λ _. way.shown.was_open;
    committed = λ _. way.shown.committed_is;
  }

  module _ (all : List (Change S C)) (count : ℕ) (old begun staged new : State) (ready : HasCleanDisk old
      → IsReady f.schema count old)
      (begins : begun ≡ record old { in_transaction = true }) (first : Survives begun staged (λ _. ⊥)) where
    begun_clean : HasCleanDisk staged → HasCleanDisk old
    begun_clean clean = subst HasCleanDisk begins (let e = first.clean in omega (arith, e, clean))

    begun_may : HasCleanDisk staged → (db : Trees) → staged.may_leave db → old.may_leave db
    begun_may clean db may = elim (first.crash clean db may) [
      | inl was ↦ subst (λ (s : State). s.may_leave db) begins was
      | inr none ↦ absurd none
    ]

    undone : HasCleanDisk staged → KeepsCommit begun staged → IsRolledBack staged new → IsTrue new.is_open
        → IsReady f.schema count new × (new.now.trees ≡ old.now.trees)
    undone clean kept back live =
        let was = ready (begun_clean clean) in
        let both = back.undone live in
        let now : new.now ≡ old.now =
        both.0 ∙ kept.committed (back.was_open live) ∙ ap (λ (s : State). s.committed) begins ∙ sym was.settled in (
          record {
            is_open = live;
            settled = both.0 ∙ sym both.1;
            filed = subst (IsFiled f.schema count) (sym now) was.filed;
          },
          ap (λ (d : Database). d.trees) now,
        )

    -- rolled back
    module _ (second : Survives staged new (λ _. ⊥)) where
      staged_clean : HasCleanDisk new → HasCleanDisk staged
      staged_clean clean = let e = second.clean in omega (arith, e, clean)

      pub undone_ready : (HasCleanDisk staged → KeepsCommit begun staged) → (HasCleanDisk new → IsRolledBack staged new)
          → HasCleanDisk new → IsTrue new.is_open → IsReady f.schema count new × (new.now.trees ≡ old.now.trees)
      undone_ready kept back clean live = undone (staged_clean clean) (kept (staged_clean clean)) (back clean) live

      pub undone_may : (db : Trees) → HasCleanDisk new → new.may_leave db → old.may_leave db
      undone_may db clean may = elim (second.crash clean db may) [
        | inl was ↦ begun_may (staged_clean clean) db was
        | inr none ↦ absurd none
      ]

    -- committed, or not
    module _ (n : ℕ) (made : HasCleanDisk staged → Makes f (changed all) n begun staged)
        (second : Survives staged new (λ db. db ≡ staged.now.trees)) where
      sent_clean : HasCleanDisk new → HasCleanDisk staged
      sent_clean clean = let e = second.clean in omega (arith, e, clean)

      now_made : HasCleanDisk staged → tables_of f staged.now.trees ≡ changed all (tables_of f old.now.trees)
      now_made clean = (made clean).tables ∙ ap (λ (s : State). changed all (tables_of f s.now.trees)) begins

      pub done_ready : (HasCleanDisk new → Shows staged new staged.now staged.now false) → HasCleanDisk new
          → IsReady f.schema n new × (tables_of f new.now.trees ≡ changed all (tables_of f old.now.trees))
      done_ready shown clean =
          let s = shown clean in (
            record {
              is_open = s.is_open;
              settled = s.now_is ∙ sym s.committed_is;
              filed = subst (IsFiled f.schema n) (sym s.now_is) (made (sent_clean clean)).filed;
            },
            ap (λ (d : Database). tables_of f d.trees) s.now_is ∙ now_made (sent_clean clean),
          )

      pub done_known : (known : Entity → Option S) → (HasCleanDisk staged → Knows known (f.entity staged.now.trees))
          → (HasCleanDisk new → Shows staged new staged.now staged.now false) → HasCleanDisk new
          → Knows known (f.entity new.now.trees)
      done_known known knows shown clean = subst (λ (d : Database). Knows known (f.entity d.trees))
          (sym (shown clean).now_is) (knows (sent_clean clean))

      pub done_may : (db : Trees) → HasCleanDisk new → new.may_leave db
          → old.may_leave db ⊎ (tables_of f db ≡ changed all (tables_of f old.now.trees))
      done_may db clean may = elim (second.crash clean db may) [
        | inl was ↦ inl (begun_may (sent_clean clean) db was)
        | inr is ↦ inr (ap (tables_of f) is ∙ now_made (sent_clean clean))
      ]

      kept : HasCleanDisk staged → KeepsCommit begun staged
      kept clean = record {
        was_open = λ _. (made clean).shown.was_open;
        committed = λ _. (made clean).shown.committed_is;
      }

      pub refused_ready : (e : Error) → (HasCleanDisk new → FailsToCommit staged new e) → HasCleanDisk new
          → IsTrue new.is_open → IsReady f.schema count new × (new.now.trees ≡ old.now.trees)
      refused_ready e fails clean live = elim (fails clean) [
        | inl failed ↦ undone (sent_clean clean) (kept (sent_clean clean)) failed.3 live
        | inr outside ↦ absurd (true≢false (sym (made (sent_clean clean)).shown.mode ∙ outside.1))
      ]
