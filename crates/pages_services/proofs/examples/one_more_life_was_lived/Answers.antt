use Rattle.laws_lives.specs.Posts.{post_of}
use Rattle.pages_services.proofs.examples.one_more_life_was_lived.Goals as goal

pub returns : goal.returns
returns g c = λ earlier left conns life usable t may was.
    c.lives_go_on.ensures.life earlier (post_of life) (g.K.Keep.seen life.first).tables t was
    (c.closed_lives_are_lives.ensures.left left conns life usable t may)
