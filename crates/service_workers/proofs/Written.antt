-- What is written on a connection, and what stays so of it.
use Rattle.std.proofs.Common.{◌≡◌, ℕ, List, [], ◌∷◌, ◌++◌, take, drop}
use Rattle.std.proofs.Common.{refl, sym, ap, ◌∙◌, subst, inl, inr, append-nil, append_assoc, take-add}
use Rattle.std.proofs.Common.{Option, Some, None, Result}
use Rattle.std.proofs.lemmas.List.{take-append-drop}
use Rattle.std.specs.declared.snapshot.Snapshot.{Snapshot}
use Rattle.std.proofs.lemmas.List.Concat.{flat_map-append}
use Rattle.base.specs.declared.limits.TheConstants.{MAX_BODY}
use Rattle.stomp_wire.specs.declared.fault.LinkFault.{LinkFault}
use Rattle.stomp_wire.specs.declared.pump.Gone.{Gone}
use Rattle.stomp_wire.specs.Pump.{Puts, no_put, one_more, IsEnd, IsPumped}
use Rattle.stomp_frame.specs.Frames.{Content, canonical}
use Rattle.stomp_frame.specs.Streams.{AreFrames, canonical_texts}
use Rattle.stomp_client.specs.Written.{Wrote, Adds}
use Rattle.keep.specs.Seen.{Seen}
use Rattle.keep.specs.Tables.{Tables}
use Rattle.activities.specs.Numbered.{IsPrefixOf}
use Rattle.activities.specs.Service.{Service}
use Rattle.endpoint.specs.Deeds.{Kept, kept}
use Rattle.endpoint.specs.Matches.{AllMatch}
use Rattle.told_lock.specs.declared.view.ToldToken.{ToldToken}
use Rattle.told_lock.specs.Rule.{Every, seen_by}
use Rattle.told_lock.proofs.Views.{every_map, every_both}
use Rattle.shared_endpoint.proofs.Closing.{any_left, any_right}
use Rattle.service_workers.specs.Conns.{link_of, client_of, start_of, IsGiven, or_was, values_of, began_with, links_of}
use Rattle.service_workers.specs.Truth.{Knows}
use Rattle.service_workers.specs.Turns.{TakesOnce}
use Rattle.service_workers.specs.Reads.{CameFrom}
use Rattle.service_workers.specs.Written.{Path, puts, fails, takes, frames_of, IsOfSession, of_session, MightSpeak, Speaks}
use Rattle.service_workers.specs.Written.{WritesOnly, Writes, WritesOfSession, came_of, HasSpoken, HasSpokenIf}
use Rattle.service_workers.specs.declared.conn.Conn.{Conn}

-- ---- several connections

-- what is so of any link
pub any_given : {L : Type 0} (given : L → Type 0) → ((link : L) → given link) → (cs : List (Option (Conn L)))
    → Every (IsGiven given) cs
any_given given any [] = tt
any_given given any (None ∷ cs) = (tt, any_given given any cs)
any_given given any (Some c ∷ cs) = (any (start_of c), any_given given any cs)

-- what is so of two is so of two that are the same
pub so_of_both : {A : Type 0} (P : A → Type 0) {x y a b : A} → x ≡ a → y ≡ b → Every P (a ∷ b ∷ []) → Every P (x ∷ y ∷ [])
so_of_both P first second h = (subst P (sym first) h.0, (subst P (sym second) h.1.0, tt))

-- one snapshot more
values_more : {A : Type 0} (xs : List (Snapshot A)) (s : Snapshot A) → values_of (xs ++ s ∷ []) ≡ values_of xs ++ s.value ∷ []
values_more [] s = refl
values_more (x ∷ xs) s = ap (λ l. x.value ∷ l) (values_more xs s)

links_more : {L : Type 0} (xs : List (Snapshot (Option (Conn L)))) (s : Snapshot (Option (Conn L)))
    → links_of (xs ++ s ∷ []) ≡ links_of xs ++ began_with s.value ∷ []
links_more [] s = refl
links_more (x ∷ xs) s = ap (λ l. began_with x.value ∷ l) (links_more xs s)

-- one more is noted
pub noted_links : {L : Type 0} (old mid new : List (Snapshot (Option (Conn L)))) (last : Snapshot (Option (Conn L)))
    (link : Option L) → new ≡ mid ++ last ∷ [] → mid ≡ old → began_with last.value ≡ link
    → links_of new ≡ links_of old ++ link ∷ []
noted_links old mid new last link more same is =
    ap links_of more ∙ links_more mid last ∙ ap (λ l. links_of l ++ began_with last.value ∷ []) same
    ∙ ap (λ k. links_of old ++ k ∷ []) is

-- ---- lists of blocks

pub blocks_more : (old more : List (List Content)) → frames_of (old ++ more) ≡ frames_of old ++ frames_of more
blocks_more old more = flat_map-append (λ block. block) old more

pub one_block : (block : List Content) → frames_of (block ∷ []) ≡ block
one_block block = append-nil block

-- ---- what a client writes

are_both : (xs ys : List Content) → AreFrames MAX_BODY xs → AreFrames MAX_BODY ys → AreFrames MAX_BODY (xs ++ ys)
are_both [] ys h k = k
are_both (x ∷ xs) ys h k = (h.0, are_both xs ys h.1 k)

pub adds_none : (out : List ℕ) → Adds [] out out
adds_none out = λ frames gone h. subst (λ fs. Wrote fs gone out) (sym (append-nil frames)) h

pub adds_frames : (more : List Content) (old new : List ℕ) → AreFrames MAX_BODY more → new ≡ old ++ canonical_texts more
    → Adds more old new
adds_frames more old new each is = λ frames gone h. record {
  each = are_both frames more h.each each;
  whole = ap (λ l. gone ++ l) is ∙ sym (append_assoc gone old (canonical_texts more))
      ∙ ap (λ l. l ++ canonical_texts more) h.whole
      ∙ sym (flat_map-append canonical frames more);
}

-- some are sent
drops_first : (frames : List Content) (gone out : List ℕ) (count : ℕ) → Wrote frames gone out
    → Wrote (frames ++ []) (gone ++ take count out) (drop count out)
drops_first frames gone out count h = record {
  each = subst (AreFrames MAX_BODY) (sym (append-nil frames)) h.each;
  whole = append_assoc gone (take count out) (drop count out) ∙ ap (λ l. gone ++ l) (take-append-drop count out)
      ∙ h.whole
      ∙ ap canonical_texts (sym (append-nil frames));
}

-- ---- links

module _ {L : Type 0} (put_gives : L → List ℕ → Result ℕ LinkFault → L → Type 0)
    (take_gives : L → ℕ → Result (List ℕ) LinkFault → L → Type 0) where
  after_puts : (start first : L) (gone octets : List ℕ) (link : L) (count : ℕ) → Path put_gives take_gives start gone first
      → Puts put_gives octets first 0 link count
      → Path put_gives take_gives start (gone ++ take count octets) link
  after_puts start first gone octets _ _ path no_put =
      subst (λ g. Path put_gives take_gives start g first) (sym (append-nil gone)) path
  after_puts start first gone octets _ _ path (one_more {before} {after} {count} {n} so_far gives some) =
      subst (λ g. Path put_gives take_gives start g after)
      (append_assoc gone (take count octets) (take n (drop count octets))
      ∙ ap (λ l. gone ++ l) (sym (take-add count n octets)))
      (puts (after_puts start first gone octets before count path so_far) gives)

  after_end : (start last after : L) (gone rest : List ℕ) (fault : Option LinkFault) → Path put_gives take_gives start gone last
      → IsEnd put_gives rest last after fault
      → Path put_gives take_gives start gone after
  after_end start last after gone rest None path (inl h) = subst (Path put_gives take_gives start gone) (sym h.1) path
  after_end start last after gone rest None path (inr h) =
      subst (λ g. Path put_gives take_gives start g after) (append-nil gone) (puts path h.1)
  after_end start last after gone rest (Some fault) path h = fails path h.1

  pub after_pump : (start first after : L) (gone octets : List ℕ) (result : Gone) → Path put_gives take_gives start gone first
      → IsPumped put_gives octets first 0 after result
      → Path put_gives take_gives start (gone ++ take result.count octets) after
  after_pump start first after gone octets result path pumped =
      after_end start pumped.last after (gone ++ take result.count octets) (drop result.count octets) result.fault
      (after_puts start first gone octets pumped.last result.count path pumped.puts) pumped.ends

  -- ---- connections

  -- some frames are written, and the link is the same
  pub writes_frames : (blocks : List (List Content)) (c d : Conn L) → start_of d ≡ start_of c → link_of d ≡ link_of c
      → Adds (frames_of blocks) (client_of c).out (client_of d).out
      → WritesOnly put_gives take_gives blocks c d
  writes_frames blocks c d starts link adds = record {
    starts = starts;
    sends = λ first frames gone path wrote. (
      [],
      subst (λ (x : List ℕ × L). Path put_gives take_gives first x.0 x.1) (λ i. (sym (append-nil gone) i, sym link i)) path,
      subst (λ g. Wrote (frames ++ frames_of blocks) g (client_of d).out) (sym (append-nil gone)) (adds frames gone wrote),
    );
  }

  -- nothing is written
  pub writes_nothing : (c d : Conn L) → start_of d ≡ start_of c → link_of d ≡ link_of c
      → (client_of d).out ≡ (client_of c).out
      → WritesOnly put_gives take_gives [] c d
  writes_nothing c d starts link out = writes_frames [] c d starts link
      (subst (Adds [] (client_of c).out) (sym out) (adds_none (client_of c).out))

  -- what waits is put on the link, as much as that takes
  pub writes_out : (c d : Conn L) (result : Gone) → start_of d ≡ start_of c
      → IsPumped put_gives (client_of c).out (link_of c) 0 (link_of d) result
      → (client_of d).out ≡ drop result.count (client_of c).out
      → WritesOnly put_gives take_gives [] c d
  writes_out c d result starts pumped out = record {
    starts = starts;
    sends = λ first frames gone path wrote. (
      take result.count (client_of c).out,
      after_pump first (link_of c) (link_of d) gone (client_of c).out result path pumped,
      subst (Wrote (frames ++ []) (gone ++ take result.count (client_of c).out)) (sym out)
          (drops_first frames gone (client_of c).out result.count wrote),
    );
  }

  -- something is taken off the link
  pub writes_none : (c d : Conn L) (most : ℕ) → start_of d ≡ start_of c
      → TakesOnce take_gives most (link_of c) (link_of d)
      → (client_of d).out ≡ (client_of c).out
      → WritesOnly put_gives take_gives [] c d
  writes_none c d most starts took out = record {
    starts = starts;
    sends = λ first frames gone path wrote. (
      [],
      subst (λ g. Path put_gives take_gives first g (link_of d)) (sym (append-nil gone)) (takes path took.1),
      subst (λ g. Wrote (frames ++ []) g (client_of d).out) (sym (append-nil gone))
          (subst (Adds [] (client_of c).out) (sym out) (adds_none (client_of c).out) frames gone wrote),
    );
  }

  -- one after another
  pub writes_both : (xs ys : List (List Content)) (b c d : Conn L) → WritesOnly put_gives take_gives xs b c
      → WritesOnly put_gives take_gives ys c d
      → WritesOnly put_gives take_gives (xs ++ ys) b d
  writes_both xs ys b c d h k = record {
    starts = k.starts ∙ h.starts;
    sends = λ first frames gone path wrote.
        let m = h.sends first frames gone path wrote in
        let n = k.sends first (frames ++ frames_of xs) (gone ++ m.0) m.1 m.2 in (
          m.0 ++ n.0,
          subst (λ g. Path put_gives take_gives first g (link_of d)) (append_assoc gone m.0 n.0) n.1,
          subst (λ (x : List Content × List ℕ). Wrote x.0 x.1 (client_of d).out) (λ i. (
            (append_assoc frames (frames_of xs) (frames_of ys) ∙ ap (λ fs. frames ++ fs) (sym (blocks_more xs ys))) i,
            append_assoc gone m.0 n.0 i,
          )) n.2,
        );
  }

  pub none_of : (P : List Content → Type 0) (c d : Conn L) → WritesOnly put_gives take_gives [] c d
      → Writes put_gives take_gives P c d
  none_of P c d h = ([], tt, h)

  pub one_of : (P : List Content → Type 0) (block : List Content) (c d : Conn L) → P block
      → WritesOnly put_gives take_gives (block ∷ []) c d
      → Writes put_gives take_gives P c d
  one_of P block c d is h = (block ∷ [], (is, tt), h)

  -- a client's blocks are its connection's, where the link is the same
  pub conn_says : (P : List Content → Type 0) (c d : Conn L) → start_of d ≡ start_of c → link_of d ≡ link_of c
      → (blocks : List (List Content)) × Every P blocks × Adds (frames_of blocks) (client_of c).out (client_of d).out
      → Writes put_gives take_gives P c d
  conn_says P c d starts link h = (h.0, h.1, writes_frames h.0 c d starts link h.2)

  -- before it something changed of which nothing is said here
  pub writes_after : (P : List Content → Type 0) (b c d : Conn L) → start_of c ≡ start_of b → link_of c ≡ link_of b
      → (client_of c).out ≡ (client_of b).out
      → Writes put_gives take_gives P c d → Writes put_gives take_gives P b d
  writes_after P b c d starts link out h = (h.0, h.1, writes_both [] h.0 b c d (writes_nothing b c starts link out) h.2)

  -- blocks of one kind are blocks of another
  pub as_others : (P Q : List Content → Type 0) → ((block : List Content) → P block → Q block) → (c d : Conn L)
      → Writes put_gives take_gives P c d → Writes put_gives take_gives Q c d
  as_others P Q so c d h = (h.0, every_map P Q h.0 so h.1, h.2)

  module _ {E S C : Type 0} (seen : E → Seen (Tables S C)) (service : Service S C) where
    -- ---- what is witnessed

    module _ (came : Content → Type 0) where
      pub more_shown : (xs ys : List E) (block : List Content) → MightSpeak seen service xs came block
          → MightSpeak seen service (xs ++ ys) came block
      more_shown xs ys block (inl free) = inl free
      more_shown xs ys block (inr was) = inr (any_left (λ y. (seen y).doubt ≡ 0 → AllMatch service (seen y).may_leave
          × Speaks service came (kept (seen y).tables) block) xs ys was)

      pub now_shown : (xs ys : List E) (block : List Content) → MightSpeak seen service ys came block
          → MightSpeak seen service (xs ++ ys) came block
      now_shown xs ys block (inl free) = inl free
      now_shown xs ys block (inr was) = inr (any_right (λ y. (seen y).doubt ≡ 0 → AllMatch service (seen y).may_leave
          × Speaks service came (kept (seen y).tables) block) xs ys was)

      -- what a good token has seen
      pub known_shown : (sound : Type 0) (P : Kept C → Type 0) (block : List Content) (own : List (ToldToken E)) (others : List E)
          → ((x : Kept C) → P x → Speaks service came x block) → Knows seen service sound P own → sound
          → MightSpeak seen service (seen_by own ++ others) came block
      known_shown sound P block (w ∷ []) others so knows is =
          inr (inl (λ z. let h = knows is z in (h.0.matches, so (kept (seen w.seen).tables) h.1)))
      known_shown sound P block [] others so knows is = absurd knows
      known_shown sound P block (w ∷ v ∷ ws) others so knows is = absurd knows

    -- ---- what was written

    -- a connection goes on, and more may be shown
    pub has_spoken_on : (xs ys : List E) (c d : Conn L) → HasSpoken put_gives take_gives seen service xs c
        → Writes put_gives take_gives (MightSpeak seen service (xs ++ ys) (came_of put_gives take_gives c)) c d
        → HasSpoken put_gives take_gives seen service (xs ++ ys) d
    has_spoken_on xs ys c d h k =
        let m = k.2.sends (start_of c) (frames_of h.blocks) h.gone h.path h.wrote in
        let came = came_of put_gives take_gives c in
        record {
          blocks = h.blocks ++ k.0;
          gone = h.gone ++ m.0;
          path = subst (λ (l : L). Path put_gives take_gives l (h.gone ++ m.0) (link_of d)) (sym k.2.starts) m.1;
          wrote = subst (λ fs. Wrote fs (h.gone ++ m.0) (client_of d).out) (sym (blocks_more h.blocks k.0)) m.2;
          allowed = subst (λ (l : L). Every (MightSpeak seen service (xs ++ ys) (CameFrom put_gives take_gives (Some l)))
              (h.blocks ++ k.0)) (sym k.2.starts)
              (every_both (MightSpeak seen service (xs ++ ys) came) h.blocks k.0
              (every_map (MightSpeak seen service xs came) (MightSpeak seen service (xs ++ ys) came) h.blocks
              (more_shown came xs ys) h.allowed)
              k.1);
        }

    -- the same where no more is shown
    pub has_spoken_more : (xs : List E) (c d : Conn L) → HasSpoken put_gives take_gives seen service xs c
        → Writes put_gives take_gives (MightSpeak seen service xs (came_of put_gives take_gives c)) c d
        → HasSpoken put_gives take_gives seen service xs d
    has_spoken_more xs c d h k =
        let came = came_of put_gives take_gives c in
        subst (λ es. HasSpoken put_gives take_gives seen service es d) (append-nil xs)
        (has_spoken_on xs [] c d h (as_others (MightSpeak seen service xs came) (MightSpeak seen service (xs ++ []) came)
        (more_shown came xs []) c d k))

    -- or nothing is written but frames of the session, which need no witness
    pub has_spoken_session : (xs : List E) (c d : Conn L) → HasSpoken put_gives take_gives seen service xs c
        → WritesOfSession put_gives take_gives service.kind c d
        → HasSpoken put_gives take_gives seen service xs d
    has_spoken_session xs c d h k = has_spoken_more xs c d h (as_others (IsOfSession service.kind)
        (MightSpeak seen service xs (came_of put_gives take_gives c)) (λ block is. inl (of_session block is)) c d k)

    -- and where more is shown, and nothing is written
    pub shown_more : (xs ys : List E) (c : Conn L) → HasSpoken put_gives take_gives seen service xs c
        → HasSpoken put_gives take_gives seen service (xs ++ ys) c
    shown_more xs ys c h = has_spoken_on xs ys c c h
        (none_of (MightSpeak seen service (xs ++ ys) (came_of put_gives take_gives c)) c c (writes_nothing c c refl refl refl))

    pub shown_before : (xs ys : List E) (c : Conn L) → HasSpoken put_gives take_gives seen service ys c
        → HasSpoken put_gives take_gives seen service (xs ++ ys) c
    shown_before xs ys c h = record {
      blocks = h.blocks;
      gone = h.gone;
      path = h.path;
      wrote = h.wrote;
      allowed = every_map (MightSpeak seen service ys (came_of put_gives take_gives c))
          (MightSpeak seen service (xs ++ ys) (came_of put_gives take_gives c)) h.blocks
          (now_shown (came_of put_gives take_gives c) xs ys) h.allowed;
    }

    -- ---- a line

    -- what is known of the connection of a line: its link is one of those that were given, and it has spoken
    abbrev pub IsKnown : (given : L → Type 0) → (sound : Type 0) → List E → Option (Conn L) → Type 0
    IsKnown given sound es o = IsGiven given o
        × (sound → HasSpokenIf put_gives take_gives seen service es o)

    known_start : (given : L → Type 0) (c d : Conn L) → start_of d ≡ start_of c → IsGiven given (Some c)
        → IsGiven given (Some d)
    known_start given c d same h = subst given (sym same) h

    -- it goes on, and more is shown, by which it has spoken while the service is sound
    pub line_spoke : (given : L → Type 0) (sound : Type 0) (xs ys : List E) (now was : Option (Conn L)) (c d : Conn L)
        → now ≡ Some c → IsKnown given sound xs (or_was now was) → start_of d ≡ start_of c
        → (sound → Writes put_gives take_gives (MightSpeak seen service (xs ++ ys) (came_of put_gives take_gives c)) c d)
        → IsKnown given sound (xs ++ ys) (Some d)
    line_spoke given sound xs ys now was c d is known starts h =
        let old : IsKnown given sound xs (Some c) = subst (λ o. IsKnown given sound xs (or_was o was)) is known in (
          known_start given c d starts old.0,
          λ s. has_spoken_on xs ys c d (old.1 s) (h s),
        )

    -- the same of blocks of another kind
    pub line_says : (P : List Content → Type 0) (given : L → Type 0) (sound : Type 0) (xs ys : List E)
        (now was : Option (Conn L)) (c d : Conn L)
        → now ≡ Some c → IsKnown given sound xs (or_was now was)
        → (sound → (block : List Content) → P block → MightSpeak seen service (xs ++ ys) (came_of put_gives take_gives c) block)
        → Writes put_gives take_gives P c d
        → IsKnown given sound (xs ++ ys) (Some d)
    line_says P given sound xs ys now was c d is known so h = line_spoke given sound xs ys now was c d is known h.2.starts
        (λ s. as_others P (MightSpeak seen service (xs ++ ys) (came_of put_gives take_gives c)) (so s) c d h)

    -- it goes on, and nothing is written but frames of the session
    pub line_goes : (given : L → Type 0) (sound : Type 0) (xs : List E) (now was : Option (Conn L)) (c d : Conn L)
        → now ≡ Some c → IsKnown given sound xs (or_was now was)
        → WritesOfSession put_gives take_gives service.kind c d
        → IsKnown given sound xs (Some d)
    line_goes given sound xs now was c d is known h =
        let old : IsKnown given sound xs (Some c) = subst (λ o. IsKnown given sound xs (or_was o was)) is known in (
          known_start given c d h.2.starts old.0,
          λ s. has_spoken_session xs c d (old.1 s) h,
        )

    -- it was cut
    pub line_cut : (given : L → Type 0) (sound : Type 0) (xs : List E) (now was : Option (Conn L)) (c : Conn L)
        → now ≡ Some c → IsKnown given sound xs (or_was now was)
        → IsKnown given sound xs (or_was None now)
    line_cut given sound xs now was c is known =
        let old : IsKnown given sound xs (Some c) = subst (λ o. IsKnown given sound xs (or_was o was)) is known in
        subst (IsKnown given sound xs) (sym is) old

    pub spoken_before : (xs ys : List E) (o : Option (Conn L)) → HasSpokenIf put_gives take_gives seen service ys o
        → HasSpokenIf put_gives take_gives seen service (xs ++ ys) o
    spoken_before xs ys None h = tt
    spoken_before xs ys (Some c) h = shown_before xs ys c h

    pub spoken_also : (xs ys : List E) (o : Option (Conn L)) → HasSpokenIf put_gives take_gives seen service xs o
        → HasSpokenIf put_gives take_gives seen service (xs ++ ys) o
    spoken_also xs ys None h = tt
    spoken_also xs ys (Some c) h = shown_more xs ys c h

    -- the same by what was shown before, or behind
    pub known_before : (given : L → Type 0) (sound : Type 0) (xs ys : List E) (o : Option (Conn L))
        → IsKnown given sound ys o → IsKnown given sound (xs ++ ys) o
    known_before given sound xs ys o h = (h.0, λ s. spoken_before xs ys o (h.1 s))

    pub known_also : (given : L → Type 0) (sound : Type 0) (xs ys : List E) (o : Option (Conn L))
        → IsKnown given sound xs o → IsKnown given sound (xs ++ ys) o
    known_also given sound xs ys o h = (h.0, λ s. spoken_also xs ys o (h.1 s))

    pub spoken_further : (xs ys : List E) (o : Option (Conn L)) → IsPrefixOf xs ys
        → HasSpokenIf put_gives take_gives seen service xs o
        → HasSpokenIf put_gives take_gives seen service ys o
    spoken_further xs ys o pre h = subst (λ es. HasSpokenIf put_gives take_gives seen service es o) pre.1
        (spoken_also xs pre.0 o h)

    -- one more is noted
    pub noted_more : (xs ys zs : List E) (old mid new : List (Snapshot (Option (Conn L)))) (last : Snapshot (Option (Conn L)))
        → zs ≡ xs ++ ys → new ≡ mid ++ last ∷ [] → mid ≡ old
        → Every (HasSpokenIf put_gives take_gives seen service xs) (values_of old)
        → HasSpokenIf put_gives take_gives seen service ys last.value
        → Every (HasSpokenIf put_gives take_gives seen service zs) (values_of new)
    noted_more xs ys zs old mid new last shown more same so one =
        let items : values_of new ≡ values_of old ++ last.value ∷ [] =
        ap values_of more ∙ values_more mid last ∙ ap (λ l. values_of l ++ last.value ∷ []) same in
        subst (λ (x : List E × List (Option (Conn L))). Every (HasSpokenIf put_gives take_gives seen service x.0) x.1)
        (λ i. (sym shown i, sym items i))
        (every_both (HasSpokenIf put_gives take_gives seen service (xs ++ ys)) (values_of old) (last.value ∷ [])
        (every_map (HasSpokenIf put_gives take_gives seen service xs) (HasSpokenIf put_gives take_gives seen service (xs ++ ys))
        (values_of old) (spoken_also xs ys) so)
        (spoken_before xs ys last.value one, tt))
