use Rattle.pages_services.proofs.examples.what_a_broker_brought_is_a_step.Goals as goal

pub returns : goal.returns
returns g c written carries =
    c.frames_are_steps.ensures.does c.args.own.now c.take_frame.new.endpoint written c.args.frame _
    c.take_frame.ensures.doubt c.take_frame.ensures.comes c.take_frame.ensures.matches carries
