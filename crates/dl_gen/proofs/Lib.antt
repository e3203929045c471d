pub mod OneSeat
