use Rattle.std.proofs.Common.{◌∷◌, [], refl}
use Rattle.shared_endpoint.proofs.Closing.{seats_from}
use Rattle.shared_endpoint.proofs.shared.Shared.seats.Goals as goal

pub returns-clause-seats : goal.returns-clause-seats
returns-clause-seats g c = seats_from c.args.self.now c.args.endpoint.now
    (c.seat.result ∷ c.seat-2.result ∷ c.seat-3.result ∷ c.seat-4.result ∷ c.seat-5.result ∷ c.seat-6.result ∷
    c.seat-7.result ∷ c.seat-8.result ∷ c.seat-9.result ∷ c.seat-10.result ∷ c.seat-11.result ∷
    c.seat-12.result ∷ c.seat-13.result ∷ c.seat-14.result ∷ c.seat-15.result ∷ c.seat-16.result ∷ [])
    refl (
      c.seat.ensures.seat,
      (
        c.seat.ensures.number,
        (
          c.seat-2.ensures.seat,
          (
            c.seat-2.ensures.number,
            (
              c.seat-3.ensures.seat,
              (
                c.seat-3.ensures.number,
                (
                  c.seat-4.ensures.seat,
                  (
                    c.seat-4.ensures.number,
                    (
                      c.seat-5.ensures.seat,
                      (
                        c.seat-5.ensures.number,
                        (
                          c.seat-6.ensures.seat,
                          (
                            c.seat-6.ensures.number,
                            (
                              c.seat-7.ensures.seat,
                              (
                                c.seat-7.ensures.number,
                                (
                                  c.seat-8.ensures.seat,
                                  (
                                    c.seat-8.ensures.number,
                                    (
                                      c.seat-9.ensures.seat,
                                      (
                                        c.seat-9.ensures.number,
                                        (
                                          c.seat-10.ensures.seat,
                                          (
                                            c.seat-10.ensures.number,
                                            (
                                              c.seat-11.ensures.seat,
                                              (
                                                c.seat-11.ensures.number,
                                                (
                                                  c.seat-12.ensures.seat,
                                                  (
                                                    c.seat-12.ensures.number,
                                                    (
                                                      c.seat-13.ensures.seat,
                                                      (
                                                        c.seat-13.ensures.number,
                                                        (
                                                          c.seat-14.ensures.seat,
                                                          (
                                                            c.seat-14.ensures.number,
                                                            (
                                                              c.seat-15.ensures.seat,
                                                              (
                                                                c.seat-15.ensures.number,
                                                                (
                                                                  c.seat-16.ensures.seat,
                                                                  (
                                                                    c.seat-16.ensures.number,
                                                                    tt,
                                                                  ),
                                                                ),
                                                              ),
                                                            ),
                                                          ),
                                                        ),
                                                      ),
                                                    ),
                                                  ),
                                                ),
                                              ),
                                            ),
                                          ),
                                        ),
                                      ),
                                    ),
                                  ),
                                ),
                              ),
                            ),
                          ),
                        ),
                      ),
                    ),
                  ),
                ),
              ),
            ),
          ),
        ),
      ),
    )
