use Rattle.std.proofs.Common.{inl, refl, [], ◌∷◌}
use Rattle.laws_services.specs.Services.{Traffic}
use Rattle.laws_delivery.specs.Two.{Two, AtLeft}
use Rattle.pages_services.proofs.examples.letters_stay_delivered.Goals as goal

-- a service and its partner
abbrev both : {K L : Type 0} → K → L → Traffic → Two K L
both own partner traffic = record { left = own; right = partner; traffic = traffic }

pub returns : goal.returns
returns g c pairs first partner traffic run carries clean =
    let before = both c.args.own.now partner traffic in
    let after = both c.take_frame.new.endpoint partner traffic in
    c.any_two_services_deliver.ensures.delivered pairs before after (record {
      path = after ∷ [];
      steps = (
        AtLeft (record {
          does = c.frames_are_steps.ensures.does c.args.own.now c.take_frame.new.endpoint traffic.written c.args.frame _
              c.take_frame.ensures.doubt c.take_frame.ensures.comes c.take_frame.ensures.matches carries;
          writes = λ e there. inl there;
          takes = λ l there. inl there;
        }) refl,
        refl,
      );
      apart = run.apart;
      matching = c.any_two_services_deliver.ensures.matching pairs first before run;
      good = c.any_two_services_deliver.ensures.good pairs first before run;
      clean = (clean, run.clean.1);
    })
