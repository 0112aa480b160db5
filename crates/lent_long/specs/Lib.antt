pub mod LongCalls
