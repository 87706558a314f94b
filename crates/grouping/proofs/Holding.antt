-- Groups whose answers are held, one more at a time.
use Rattle.std.proofs.Common.{◌≡◌, inl, inr, ℕ, List, ◌++◌, take, Option, Some, refl, sym, ap, subst, ◌∙◌, append-nil}
use Rattle.std.proofs.lemmas.List.{append_cancel_left}
use Rattle.drive.specs.Gathering.{Gathering}
use Rattle.engine.specs.declared.serving.ServeFault.TheVariants as faults
use Rattle.engine.specs.Served.{frames_of}
use Rattle.engine.specs.Situation.{Situation}
use Rattle.grouping.specs.Groups.{GroupTold, GroupUntold, IsSettled}
use Rattle.grouping.specs.Streams.{Grouping, GroupingSome}
use Rattle.grouping.proofs.Streams.{One, OneSome, grouping_more, grouping_some}

-- a group whose answers' frames were appended
pub record OneHeld (reader after : Option (List ℕ)) (before : Situation) (begun : Gathering) (afterwards : Situation) (ended : Gathering) (held written : List ℕ) : Type 0 where
  pub made : List ℕ
  pub one : One reader after before begun afterwards ended made
  pub appended : written ≡ held ++ made

-- the same, but there was no memory for the last answer's frame
pub record OneSomeHeld (reader after : Option (List ℕ)) (before : Situation) (begun : Gathering) (afterwards : Situation) (ended : Gathering) (held written : List ℕ) : Type 0 where
  pub made : List ℕ
  pub one : OneSome reader after before begun afterwards ended made
  pub appended : written ≡ held ++ made

module _ (reader after : Option (List ℕ)) (before : Situation) (begun : Gathering) (afterwards : Situation) (ended : Gathering) (held written : List ℕ) where
  pub one_held : GroupTold reader after before begun afterwards ended (Some held) (Some written) → OneHeld reader after before begun afterwards ended held written
  one_held (inl (marks, h, settled)) = record {
    made = frames_of h.gathering.told.answers;
    one = record {
      group = record { start = before; messages = h.gathering.told.messages; answers = h.gathering.told.answers; afterwards = afterwards; gathering = ended };
      is = inl (record {
        starts = refl;
        answered = h.gathering.told.answered;
        none_failed = h.gathering.none_failed;
        settled = subst (λ (l : List ℕ). IsSettled l before afterwards begun ended) h.gathering.marks_are settled;
      });
      taken = h.gathering.told.taken;
      frames_are = refl;
      ends = refl;
      gathering = refl;
      some = h.some;
    };
    appended = h.gathering.told.told;
  }
  one_held (inr (start, starts, alone, told, idle)) = record {
    made = frames_of told.answers;
    one = record {
      group = record { start = start; messages = told.messages; answers = told.answers; afterwards = afterwards; gathering = ended };
      is = inr (record { starts = starts; alone = alone; answered = told.answered });
      taken = told.taken;
      frames_are = refl;
      ends = refl;
      gathering = refl;
      some = λ e. idle;
    };
    appended = told.told;
  }

  pub some_held : GroupUntold reader after before begun afterwards ended (Some held) (Some written) → OneSomeHeld reader after before begun afterwards ended held written
  some_held (inl (marks, h, settled)) = record {
    made = take h.told.front.0 (frames_of h.told.answers);
    one = record {
      group = record { start = before; messages = h.told.messages; answers = h.told.answers; afterwards = afterwards; gathering = ended };
      is = inl (record {
        starts = refl;
        answered = h.told.answered;
        none_failed = h.none_failed;
        settled = subst (λ (l : List ℕ). IsSettled l before afterwards begun ended) h.marks_are settled;
      });
      taken = h.told.taken;
      count = h.told.front.0;
      frames_are = refl;
      others = h.told.left.0;
      last = h.told.left.1;
      answers_are = h.told.left.2;
      made_are = append_cancel_left held (take h.told.front.0 (frames_of h.told.answers)) (frames_of h.told.left.0)
          (sym h.told.front.1 ∙ h.told.left.3 ∙ ap (λ (l : List ℕ). held ++ l) (append-nil (frames_of h.told.left.0)));
      ends = refl;
      gathering = refl;
    };
    appended = h.told.front.1;
  }
  some_held (inr (start, starts, alone, told)) = record {
    made = take told.front.0 (frames_of told.answers);
    one = record {
      group = record { start = start; messages = told.messages; answers = told.answers; afterwards = afterwards; gathering = ended };
      is = inr (record { starts = starts; alone = alone; answered = told.answered });
      taken = told.taken;
      count = told.front.0;
      frames_are = refl;
      others = told.left.0;
      last = told.left.1;
      answers_are = told.left.2;
      made_are = append_cancel_left held (take told.front.0 (frames_of told.answers)) (frames_of told.left.0)
          (sym told.front.1 ∙ told.left.3 ∙ ap (λ (l : List ℕ). held ++ l) (append-nil (frames_of told.left.0)));
      ends = refl;
      gathering = refl;
    };
    appended = told.front.1;
  }

module _ (reader between after : Option (List ℕ)) (s : Situation) (sg : Gathering) (t : Situation) (tg : Gathering) (u : Situation) (ug : Gathering) (xs ys zs : List ℕ) (h : Grouping reader between s sg t tg (Some xs) (Some ys)) where
  -- a group more was answered, and its answers' frames were appended
  pub held_more : OneHeld between after t tg u ug ys zs → Grouping reader after s sg u ug (Some xs) (Some zs)
  held_more more = grouping_more reader between after s sg t tg u ug (Some xs) (Some ys) (Some zs) more.made h more.one more.appended

  -- or there was no memory for the last one
  pub held_some : OneSomeHeld between after t tg u ug ys zs → GroupingSome faults.Memory reader after s sg u ug (Some xs) (Some zs)
  held_some more = grouping_some reader between after s sg t tg u ug (Some xs) (Some ys) (Some zs) more.made h more.one more.appended
